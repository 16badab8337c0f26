-- Positions of money or of pieces against the book's balances: one law for both.
use Prim.Native.Nat.{ℕ, ◌+◌, ◌<◌}
use native.Mathlib.Omega.{arith}
use mathlib.Core.Path.{◌≡◌, refl, ap, sym, subst, ◌∙◌}
use mathlib.Core.List.{List}
use mathlib.Core.Bool.{Bool, true, false, cond}
use lib.ListN.{length, set, length-set}
use lib.Seq.{get_or-set_same, get_or-set_other}
use lib.Dec.{eqb}
use borrow.Author.Tests.{eqb-true, eqb-false}
use Rattle.market.specs.Limits.{cells, market}
use Rattle.market.specs.declared.Asset.{Asset}
use Rattle.market.specs.declared.Rules.{Rules}
use Rattle.market.specs.Day.{Position, account, blocked_at, cell, columns_of, position}
use Rattle.market.specs.Needs.{only}
use Rattle.market.specs.Positions.{change, receive, total}
use Rattle.market.proofs.Amounts.{change_law, length_change, only_add, only_zero, still}
use Rattle.market.proofs.Totals.{account_same, other_place}
use Rattle.invariant.specs.Standing.{Held}
use Rattle.invariant.proofs.Held.{held_cell, held_inside, held_market, held_member}
use Rattle.conservation.specs.Book.{Balance, add, balance, no_balance, sub}

-- m and l agree in the first n columns, of each participant and of the market
pub record Balanced (r : Rules) (n : ℕ) (m : List ℕ) (l : List Balance) : Type 0 where
  pub balances : length l ≡ cells
  pub agree : (p c : ℕ) → p < r.participants → c < n
      → total (position m (cell p c)) + (balance l (cell p c)).out ≡ (balance l (cell p c)).into
  pub account : (c : ℕ) → c < n
      → account m c + (balance l (cell market c)).out ≡ (balance l (cell market c)).into

-- from balances l to l' so much came in and went out in each cell
pub record Flows (l l' : List Balance) (came went : ℕ → ℕ) : Type 0 where
  pub size : length l' ≡ length l
  pub into : (k : ℕ) → (balance l' k).into ≡ (balance l k).into + came k
  pub out : (k : ℕ) → (balance l' k).out ≡ (balance l k).out + went k

-- one balance set: a measure of it grows by a
balance_set : (g : Balance → ℕ) (l : List Balance) (j k : ℕ) (x : Balance) (a : ℕ) → j < length l
    → g x ≡ g (balance l j) + a → g (balance (set l j x) k) ≡ g (balance l k) + only j k a
unfolding only
balance_set g l j k x a h e = go (eqb j k) refl
  where
    go : (z : Bool) → eqb j k ≡ z → g (balance (set l j x) k) ≡ g (balance l k) + cond z a 0
    go true q =
        subst (λ (i : ℕ). g (balance (set l j x) i) ≡ g (balance l i) + a) (eqb-true j k q)
        (ap g (get_or-set_same l j x no_balance h) ∙ e)
    go false q = omega (arith, ap g (get_or-set_other l j k x no_balance (λ z. eqb-false j k q (sym z))))

pub flows_none : (l : List Balance) → Flows l l (λ k. 0) (λ k. 0)
flows_none l = record { size = refl; into = λ k. omega arith; out = λ k. omega arith }

module _ {l l' : List Balance} {came went : ℕ → ℕ} (f : Flows l l' came went) (j a : ℕ) (h : j < length l) where
  inside : j < length l'
  inside = omega (arith, f.size)

  -- then a comes in, or goes out, in cell j
  pub flows_add : Flows l (add l' j a) (λ k. came k + only j k a) went
  flows_add =
      let x : Balance = record { into = (balance l' j).into + a; out = (balance l' j).out } in
      record {
        size = length-set l' j x ∙ f.size;
        into = λ k. omega (arith, balance_set (λ (y : Balance). y.into) l' j k x a inside refl, f.into k);
        out = λ k.
            omega (arith, balance_set (λ (y : Balance). y.out) l' j k x 0 inside (omega arith), only_zero j k, f.out k);
      }

  pub flows_sub : Flows l (sub l' j a) came (λ k. went k + only j k a)
  flows_sub =
      let x : Balance = record { into = (balance l' j).into; out = (balance l' j).out + a } in
      record {
        size = length-set l' j x ∙ f.size;
        into = λ k.
            omega (arith, balance_set (λ (y : Balance). y.into) l' j k x 0 inside (omega arith), only_zero j k, f.into k);
        out = λ k. omega (arith, balance_set (λ (y : Balance). y.out) l' j k x a inside refl, f.out k);
      }

module _ {x : Asset} {r : Rules} {m : List ℕ} {need : ℕ → ℕ} {l : List Balance} (h : Held x r m need)
    (b : Balanced r (columns_of x r) m l) where
  -- positions m' that moved as the balances did
  rebalanced : (m' : List ℕ) {l' : List Balance} {came went : ℕ → ℕ} → Flows l l' came went
      → ((p c : ℕ) → p < r.participants → c < columns_of x r
      → total (position m' (cell p c)) + went (cell p c) ≡ total (position m (cell p c)) + came (cell p c))
      → ((c : ℕ) → c < columns_of x r → account m' c + went (cell market c) ≡ account m c + came (cell market c))
      → Balanced r (columns_of x r) m' l'
  rebalanced m' f members own = record {
    balances = f.size ∙ b.balances;
    agree = λ p c hp hc.
        omega (arith, f.into (cell p c), f.out (cell p c), members p c hp hc, b.agree p c hp hc);
    account = λ c hc.
        omega (arith, f.into (cell market c), f.out (cell market c), own c hc, b.account c hc);
  }

  -- the place of a known cell, and of the market's, among the balances
  placed : (q e : ℕ) → q < r.participants → e < columns_of x r → cell q e < length l
  placed q e hq he = omega (arith, held_cell h q e hq he, b.balances)

  market_placed : (e : ℕ) → e < columns_of x r → cell market e < length l
  market_placed e he = omega (arith, h.wide, b.balances)

  -- a participant's place is not the market's
  apart : (q e c a : ℕ) → q < r.participants → e < columns_of x r → c < columns_of x r → only (cell q e) (cell market c) a ≡ 0
  apart q e c a hq he hc =
      other_place q e market c a (omega (arith, h.wide)) (omega (arith, h.wide)) (λ x y. omega (arith, h.rows))

  apart_too : (q e c a : ℕ) → q < r.participants → e < columns_of x r → c < columns_of x r → only (cell market e) (cell q c) a ≡ 0
  apart_too q e c a hq he hc =
      other_place market e q c a (omega (arith, h.wide)) (omega (arith, h.wide)) (λ x y. omega (arith, h.rows))

  -- in a known cell, the total stays
  pub balanced_same : (q e : ℕ) (f : Position → Position) → q < r.participants → e < columns_of x r
      → total (f (position m (cell q e))) ≡ total (position m (cell q e)) → Balanced r (columns_of x r) (change m (cell q e) f) l
  balanced_same q e f hq he same =
      rebalanced (change m (cell q e) f) (flows_none l)
      (λ p c hp hc. omega (arith, still total m (cell q e) f (held_inside h q e hq he) same (cell p c)))
      (λ c hc. omega (arith, account_same m (cell q e) c f (held_member h q e hq he)))

  -- a free amount comes in, or goes out, and the balance with it
  pub balanced_add : (q e a : ℕ) (f : Position → Position) → q < r.participants → e < columns_of x r
      → total (f (position m (cell q e))) ≡ total (position m (cell q e)) + a
      → Balanced r (columns_of x r) (change m (cell q e) f) (add l (cell q e) a)
  balanced_add q e a f hq he gets =
      let i = cell q e in
      rebalanced (change m i f) (flows_add (flows_none l) i a (placed q e hq he))
      (λ p c hp hc.
      let t = change_law total m i (cell p c) f 0 a (held_inside h q e hq he) (omega arith) in
      omega (arith, t, only_zero i (cell p c)))
      (λ c hc. omega (arith, account_same m i c f (held_member h q e hq he), apart q e c a hq he hc))

  pub balanced_sub : (q e a : ℕ) (f : Position → Position) → q < r.participants → e < columns_of x r
      → total (f (position m (cell q e))) + a ≡ total (position m (cell q e))
      → Balanced r (columns_of x r) (change m (cell q e) f) (sub l (cell q e) a)
  balanced_sub q e a f hq he pays =
      let i = cell q e in
      rebalanced (change m i f) (flows_sub (flows_none l) i a (placed q e hq he))
      (λ p c hp hc.
      let t = change_law total m i (cell p c) f a 0 (held_inside h q e hq he) (omega arith) in
      omega (arith, t, only_zero i (cell p c)))
      (λ c hc. omega (arith, account_same m i c f (held_member h q e hq he), apart q e c a hq he hc))

  -- of two known places of one column the first pays cost in the way f, the second gets a gain
  module _ (q s e : ℕ) (f : Position → Position) (cost gain : ℕ) (hq : q < r.participants) (hs : s < r.participants)
      (he : e < columns_of x r) (pays : total (f (position m (cell q e))) + cost ≡ total (position m (cell q e))) where
    abbrev paid : List ℕ
    paid = change m (cell q e) f

    abbrev after : List ℕ
    after = change paid (cell s e) (receive gain)

    inside_paid : blocked_at (cell s e) < length paid
    inside_paid = omega (arith, held_inside h s e hs he, length_change m (cell q e) f)

    moved : (j : ℕ) → total (position after j) + only (cell q e) j cost ≡ total (position m j) + only (cell s e) j gain
    moved j =
        omega (
          arith,
          change_law total m (cell q e) j f cost 0 (held_inside h q e hq he) (omega arith),
          change_law total paid (cell s e) j (receive gain) 0 gain inside_paid (omega arith),
          only_zero (cell q e) j,
          only_zero (cell s e) j,
        )

    unmoved : (c : ℕ) → account after c ≡ account m c
    unmoved c =
        account_same paid (cell s e) c (receive gain) (held_member h s e hs he)
        ∙ account_same m (cell q e) c f (held_member h q e hq he)

    -- all that one pays, the other gets
    pub balanced_transfer : gain ≡ cost → Balanced r (columns_of x r) after (add (sub l (cell q e) cost) (cell s e) gain)
    balanced_transfer all =
        rebalanced after
        (flows_add (flows_sub (flows_none l) (cell q e) cost (placed q e hq he)) (cell s e) gain (placed s e hs he))
        (λ p c hp hc. omega (arith, moved (cell p c)))
        (λ c hc. omega (arith, unmoved c, apart q e c cost hq he hc, apart s e c gain hs he hc))

    -- the sum goes from the first to the second, and each pays the fee to the market
    pub balanced_fees : (sum fee : ℕ) → cost ≡ sum + fee → gain + fee ≡ sum
        → Balanced r (columns_of x r) (change after (cell market e) (receive (fee + fee)))
        (add (sub (sub (add (sub l (cell q e) sum) (cell s e) sum) (cell q e) fee) (cell s e) fee) (cell market e)
        (fee + fee))
    balanced_fees sum fee costs gains =
        let i = cell q e in
        let j = cell s e in
        let k = cell market e in
        let kq = placed q e hq he in
        let ks = placed s e hs he in
        let inside-market : blocked_at k < length after =
        omega (arith, held_market h e he, length_change paid j (receive gain), length_change m i f) in
        rebalanced (change after k (receive (fee + fee)))
        (flows_add (flows_sub (flows_sub (flows_add (flows_sub (flows_none l) i sum kq) j sum ks) i fee kq) j fee ks) k
        (fee + fee) (market_placed e he))
        (λ p c hp hc.
        let x = cell p c in
        let t = change_law total after k x (receive (fee + fee)) 0 (fee + fee) inside-market (omega arith) in
        let whole = ap (only i x) costs ∙ only_add i x sum fee in
        let share = sym (only_add j x gain fee) ∙ ap (only j x) gains in
        omega (arith, moved x, t, whole, share, only_zero k x, apart_too p e c (fee + fee) hp he hc))
        (λ c hc.
        let x = cell market c in
        let t = change_law (λ (y : Position). y.free) after k x (receive (fee + fee)) 0 (fee + fee) inside-market
        (omega arith) in
        omega (
          arith,
          unmoved c,
          t,
          only_zero k x,
          apart q e c sum hq he hc,
          apart q e c fee hq he hc,
          apart s e c sum hs he hc,
          apart s e c fee hs he hc,
        ))
