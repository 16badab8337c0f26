-- Laws of needs added up cell by cell.
use Prim.Native.Nat.{ℕ, ◌+◌, ◌*◌, ◌≤◌, ◌<◌}
use native.Mathlib.Omega.{arith}
use native.Mathlib.Nat.{le_trans, mul-le-mul}
use mathlib.Core.Path.{◌≡◌, refl, ap, sym, ◌∙◌}
use mathlib.Core.List.{List}
use mathlib.Core.Bool.{Bool, true, false, cond}
use lib.Dec.{eqb, lit≤}
use lib.ListN.{length, get_or, set, drop, replicate, length-set}
use lib.Seq.{get_or-set_same, get_or-set_other}
use borrow.Author.Tests.{eqb-false, eqb-true, ne_eqb}
use Rattle.market.specs.declared.Order.{Order}
use Rattle.market.specs.declared.Listing.{Listing}
use Rattle.market.specs.declared.Side.{Side}
use Rattle.market.specs.declared.Side.TheVariants.{Buy, Sell}
use Rattle.market.specs.declared.Turnover.{Turnover}
use Rattle.market.specs.Limits.{cells, columns, max_lots, max_price, max_sum}
use Rattle.market.specs.Tests.{◌=?◌, all_below, sum_of}
use Rattle.market.specs.declared.Rules.{Rules}
use Rattle.market.specs.declared.Asset.{Asset}
use Rattle.market.specs.declared.Asset.TheVariants.{Money, Pieces}
use Rattle.market.specs.Day.{Day, columns_of, currency_of, if_money}
use Rattle.market.specs.View.{first_orders}
use Rattle.market.specs.Day.{order_at, cell, position, positions, total_limit}
use Rattle.market.specs.Sound.{blocked_sound, needs_at, totals_sound}
use Rattle.market.specs.Needs.{blocks, column_of, limit_of, need, need_at, of_asset, only, pieces_of, sum_for, with_fee}
use Rattle.market.specs.Parts.{ListingOk, listing}
use Rattle.market.proofs.Amounts.{only_same}
use Rattle.market.proofs.Lists.{same_all}
use Rattle.market.proofs.Needs.{fee_within, sum_small}
use Rattle.market.proofs.Logic.{and_true, below_all, below_intro, both}
use Rattle.soundness.specs.Parts.{HoldsNeeds, asset_sound, covered_at, column_sound, need_cell}
use Rattle.soundness.specs.Parts.{need_cell_for}
use Rattle.soundness.proofs.Loops.{same, waiting_at, waiting_end}
use Rattle.soundness.proofs.Parts.{Reckonable}

-- an order needs at most this: a fee is no larger than its sum
abbrev pub max_need : ℕ
max_need = max_sum + max_sum

blocks_top : (side : Side) (l : Listing) (price lots : ℕ) → ListingOk l → price ≤ max_price → lots ≤ max_lots
    → blocks side l.row l.rate price lots ≤ max_need
unfolding blocks with_fee pieces_of
blocks_top Buy l price lots a b c =
    let sum = sum_for l.row price lots in
    omega (arith, sum_small l.row price lots a.lot a.nominal b c, fee_within l.rate sum a.rate)
blocks_top Sell l price lots a b c = le_trans (mul-le-mul c a.lot) (lit≤ tt)

pub need_top : (r : Rules) (t : List Turnover) (o : Order) → Reckonable r t o → need r t o ≤ max_need
need_top r t o f = blocks_top o.side (listing r o.security) (limit_of t o) o.lots f.listing f.price f.lots

-- amounts in one cell
only_apart : (i j a : ℕ) → (i ≡ j → ⊥) → only i j a ≡ 0
unfolding only
only_apart i j a h = rw (ne_eqb i j h)

only_top : (i j a : ℕ) → only i j a ≤ a
unfolding only
only_top i j a = go (eqb i j)
  where
    go : (k : Bool) → cond k a 0 ≤ a
    go true = omega arith
    go false = omega arith

only_shift : (k i j a : ℕ) → only (k + i) (k + j) a ≡ only i j a
only_shift k i j a = go (eqb i j) refl
  where
    go : (z : Bool) → eqb i j ≡ z → only (k + i) (k + j) a ≡ only i j a
    go true q = rw (eqb-true i j q) (only_same (k + j) a ∙ sym (only_same j a))
    go false q =
        only_apart (k + i) (k + j) a (λ e. eqb-false i j q (omega arith)) ∙ sym (only_apart i j a (eqb-false i j q))

-- what an order needs of an asset in a cell stands where the list has that cell
at_cell : (x : Asset) (side : Side) (r : Rules) (p s j a : ℕ) → cell p (column_of side r s) < cells → j < cells
    → of_asset x side (only (cell p (column_of side r s)) j a)
    ≡ only (need_cell_for side p (currency_of r s) s) (need_cell x j) a
at_cell Money Buy r p s j a hp hj = sym (only_shift 0 (cell p (currency_of r s)) j a)
at_cell Money Sell r p s j a hp hj = sym (only_apart (cells + cell p s) (0 + j) a (λ e. omega arith))
at_cell Pieces Buy r p s j a hp hj =
    sym (only_apart (0 + cell p (currency_of r s)) (cells + j) a (λ e. omega arith))
at_cell Pieces Sell r p s j a hp hj = sym (only_shift cells (cell p s) j a)

column_inside : (side : Side) (r : Rules) (t : List Turnover) (o : Order) → Reckonable r t o
    → cell o.participant (column_of side r o.security) < cells
column_inside Buy r t o f = omega (arith, f.participant, f.currency)
column_inside Sell r t o f = omega (arith, f.participant, f.security)

pub cell_inside : (side : Side) (r : Rules) (t : List Turnover) (o : Order) → Reckonable r t o
    → need_cell_for side o.participant (currency_of r o.security) o.security < cells + cells
cell_inside Buy r t o f = omega (arith, f.participant, f.currency)
cell_inside Sell r t o f = omega (arith, f.participant, f.security)

-- an amount more in one cell of a list
put : (l : List ℕ) (at v k : ℕ) → at < length l → get_or (set l at (get_or l at 0 + v)) k 0 ≡ get_or l k 0 + only at k v
put l at v k h = go (eqb at k) refl
  where
    go : (z : Bool) → eqb at k ≡ z → get_or (set l at (get_or l at 0 + v)) k 0 ≡ get_or l k 0 + only at k v
    go true q =
        rw (← eqb-true at k q) (get_or-set_same l at (get_or l at 0 + v) 0 h
        ∙ ap (λ (a : ℕ). get_or l at 0 + a) (sym (only_same at v)))
    go false q =
        let n = only_apart at k v (eqb-false at k q) in
        get_or-set_other l at k (get_or l at 0 + v) 0 (λ e. eqb-false at k q (sym e)) ∙ omega arith

-- the needs of the waiting orders before place i are in the list
pub record Added (r : Rules) (t : List Turnover) (n : ℕ) (w : List Order) (i : ℕ) (l : List ℕ) : Type 0 where
  pub within : i ≤ n
  pub size : length l ≡ cells + cells
  pub small : (k : ℕ) → get_or l k 0 ≤ i * max_need
  pub exact : (x : Asset) (j : ℕ) → j < cells
      → get_or l (need_cell x j) 0 + sum_of (need_at x r t j) (drop i (first_orders n w))
      ≡ sum_of (need_at x r t j) (first_orders n w)

pub added_none : (r : Rules) (t : List Turnover) (n : ℕ) (w : List Order) (l : List ℕ)
    → l ≡ replicate (cells + cells) 0 → Added r t n w 0 l
added_none r t n w l e = rw e (record {
  within = omega arith;
  size = refl;
  small = λ k. omega (arith, same_all {A = ℕ} (cells + cells) k 0);
  exact = λ x j h. omega (arith, same_all {A = ℕ} (cells + cells) (need_cell x j) 0);
})

module _ (r : Rules) (t : List Turnover) (n : ℕ) (w : List Order) (i : ℕ) (l : List ℕ) (a : Added r t n w i l) where
  pub added_next : (at v : ℕ) → i < n → Reckonable r t (order_at w i)
      → at ≡ need_cell_for (order_at w i).side (order_at w i).participant
      (currency_of r (order_at w i).security) (order_at w i).security
      → v ≡ need r t (order_at w i) → Added r t n w (i + 1) (set l at (get_or l at 0 + v))
  unfolding need_at
  added_next at v h f ea ev =
      let o = order_at w i in
      let inside : at < length l = omega (arith, a.size, cell_inside o.side r t o f) in
      let top = need_top r t o f in
      record {
        within = omega arith;
        size = length-set l at (get_or l at 0 + v) ∙ a.size;
        small = λ k. omega (arith, put l at v k inside, a.small k, only_top at k v);
        exact = λ x j hj.
            let b = a.exact x j hj in
            let p = put l at v (need_cell x j) inside in
            let q : need_at x r t j o ≡ only at (need_cell x j) v =
            rw (ea, ev) (at_cell x o.side r o.participant o.security j (need r t o)
            (column_inside o.side r t o f) hj) in
            omega (arith, rw (waiting_at n w i h) at b);
      }

  pub added_all : n ≤ i → (x : Asset) (j : ℕ) → j < cells
      → get_or l (need_cell x j) 0 ≡ sum_of (need_at x r t j) (first_orders n w)
  added_all h x j hj = let b = a.exact x j hj in omega (arith, rw (waiting_end n w i h) at b)

-- what is blocked is tested against the list, column by column
pub columns_same : (x : Asset) (d : Day) (l : List ℕ) → HoldsNeeds d l → d.rules.participants ≤ columns
    → columns_of x d.rules ≤ columns
    → all_below (columns_of x d.rules) (column_sound x d.rules.participants (total_limit x) (if_money x 0 cells)
    (positions x d) l) ≡ asset_sound x d
unfolding asset_sound blocked_sound totals_sound column_sound
columns_same x d l h hp hc = same _ _ there back
  where
    n : ℕ
    n = d.rules.participants

    w : ℕ
    w = columns_of x d.rules

    needed : (p c : ℕ) → p < n → c < w → covered_at (if_money x 0 cells) (positions x d) l (cell p c)
        ≡ (position (positions x d) (cell p c)).blocked =? needs_at x d (cell p c)
    needed p c i j = ap (λ (a : ℕ). (position (positions x d) (cell p c)).blocked =? a) (h x (cell p c) (omega arith))

    there : all_below w (column_sound x n (total_limit x) (if_money x 0 cells) (positions x d) l) ≡ true → asset_sound x d ≡ true
    there e =
        both
        (below_intro n _ (λ p i. below_intro w _
        (λ c j. sym (needed p c i j) ∙ below_all n _ (and_true (below_all w _ e c j)).0 p i)))
        (below_intro w _ (λ c j. (and_true (below_all w _ e c j)).1))

    back : asset_sound x d ≡ true → all_below w (column_sound x n (total_limit x) (if_money x 0 cells) (positions x d) l) ≡ true
    back e =
        let a = and_true e in
        below_intro w _ (λ c j. both
        (below_intro n _ (λ p i. needed p c i j ∙ below_all w _ (below_all n _ a.0 p i) c j))
        (below_all w _ a.1 c j))
