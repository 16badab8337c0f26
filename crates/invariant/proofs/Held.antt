-- Positions of money or of pieces, held against needs: one law for both.
use Prim.Native.Nat.{ℕ, zero, suc, ◌+◌, ◌≤◌, ◌<◌}
use native.Mathlib.Omega.{arith}
use mathlib.Core.Path.{◌≡◌, refl, sym, subst, ◌∙◌}
use mathlib.Core.List.{List}
use mathlib.Core.Bool.{Bool, true, false, cond}
use lib.ListN.{length}
use lib.Dec.{eqb}
use borrow.Author.Tests.{eqb-true, eqb-false}
use Rattle.market.specs.Limits.{cells, market}
use Rattle.market.specs.declared.Asset.{Asset}
use Rattle.market.specs.declared.Asset.TheVariants.{Money}
use Rattle.market.specs.declared.Rules.{Rules}
use Rattle.market.specs.Day.{Position, account, blocked_at, cell, columns_of, position, total_limit}
use Rattle.market.specs.Needs.{only}
use Rattle.market.specs.Positions.{change, receive, total, total_at}
use Rattle.market.proofs.Amounts.{change_law, length_change, only_zero, still}
use Rattle.market.proofs.Totals.{total_account, total_change, total_transfer}
use Rattle.invariant.specs.Standing.{Held}

-- one participant's amount is part of the total
pub total_part : (x : Asset) (n c q : ℕ) (m : List ℕ) → q < n → total (position m (cell q c)) ≤ total_at x n m c
total_part x zero c q m h = absurd (omega arith)
total_part x (suc n) c q m h = go (λ l. total_part x n c q m l) (eqb q n) refl
  where
    go : (q < n → total (position m (cell q c)) ≤ total_at x n m c) → (k : Bool) → eqb q n ≡ k
        → total (position m (cell q c)) ≤ total_at x (suc n) m c
    go again true e =
        subst (λ (i : ℕ). total (position m (cell i c)) ≤ total_at x (suc n) m c) (sym (eqb-true q n e)) (omega arith)
    go again false e = omega (arith, again (omega (arith, eqb-false q n e)))

module _ {x : Asset} {r : Rules} {m : List ℕ} {need : ℕ → ℕ} (h : Held x r m need) where
  pub held_cell : (p c : ℕ) → p < r.participants → c < columns_of x r → cell p c < cells
  held_cell p c hp hc = omega (arith, h.wide, h.rows)

  -- and before the market's row
  pub held_member : (p c : ℕ) → p < r.participants → c < columns_of x r → cell p c < cell market 0
  held_member p c hp hc = omega (arith, h.wide, h.rows)

  -- both numbers of the market's row stand in the list
  pub held_market : (c : ℕ) → c < columns_of x r → blocked_at (cell market c) < length m
  held_market c hc = omega (arith, h.wide, h.positions)

  -- both numbers of a known position stand in the list
  pub held_inside : (p c : ℕ) → p < r.participants → c < columns_of x r → blocked_at (cell p c) < length m
  held_inside p c hp hc = omega (arith, held_cell p c hp hc, h.positions)

  pub held_within : (p c : ℕ) → p < r.participants → c < columns_of x r → total (position m (cell p c)) ≤ total_limit x
  held_within p c hp hc = omega (arith, total_part x r.participants c p m hp, h.topped c hc)

  -- the same needs in other words
  pub held_needs : (need' : ℕ → ℕ) → ((j : ℕ) → need' j ≡ need j) → Held x r m need'
  held_needs need' e = record {
    wide = h.wide;
    rows = h.rows;
    positions = h.positions;
    blocked = λ p c hp hc. h.blocked p c hp hc ∙ sym (e (cell p c));
    topped = h.topped;
  }

  -- at a known place, blocked and need move alike, and the total stays
  pub held_block : (q e : ℕ) (f : Position → Position) (less more : ℕ) (need' : ℕ → ℕ)
      → q < r.participants → e < columns_of x r
      → total (f (position m (cell q e))) ≡ total (position m (cell q e))
      → (f (position m (cell q e))).blocked + less ≡ (position m (cell q e)).blocked + more
      → ((j : ℕ) → need' j + only (cell q e) j less ≡ need j + only (cell q e) j more)
      → Held x r (change m (cell q e) f) need'
  held_block q e f less more need' hq he same moved needs =
      let i = held_inside q e hq he in
      record {
        wide = h.wide;
        rows = h.rows;
        positions = length_change m (cell q e) f ∙ h.positions;
        blocked = λ p c hp hc.
            let a = change_law (λ (y : Position). y.blocked) m (cell q e) (cell p c) f less more i moved in
            omega (arith, a, needs (cell p c), h.blocked p c hp hc);
        topped = λ c hc.
            let a = total_change x r.participants c m (cell q e) f 0 0 (held_member q e hq he) i (omega arith) in
            omega (arith, a, h.topped c hc);
      }

  -- at a known place, the free amount moves
  pub held_move : (q e : ℕ) (f : Position → Position) → q < r.participants → e < columns_of x r
      → (f (position m (cell q e))).blocked ≡ (position m (cell q e)).blocked
      → ((c : ℕ) → c < columns_of x r → total_at x r.participants (change m (cell q e) f) c ≤ total_limit x)
      → Held x r (change m (cell q e) f) need
  held_move q e f hq he same top =
      let i = held_inside q e hq he in
      record {
        wide = h.wide;
        rows = h.rows;
        topped = top;
        positions = length_change m (cell q e) f ∙ h.positions;
        blocked = λ p c hp hc.
            still (λ (y : Position). y.blocked) m (cell q e) f i same (cell p c) ∙ h.blocked p c hp hc;
      }

  -- of two known places of column e the first pays cost in the way f, the second gets a gain: the totals
  pub held_total : (q s e : ℕ) (f : Position → Position) (cost gain c : ℕ) → q < r.participants → s < r.participants
      → e < columns_of x r → c < columns_of x r → total (f (position m (cell q e))) + cost ≡ total (position m (cell q e))
      → total_at x r.participants (change (change m (cell q e) f) (cell s e) (receive gain)) c + cond (eqb e c) cost 0
      ≡ total_at x r.participants m c + cond (eqb e c) gain 0
  held_total q s e f cost gain c hq hs he hc pays =
      total_transfer x r.participants c q s e cost gain m f h.rows hq hs (omega (arith, h.wide))
      (omega (arith, h.wide)) (held_inside q e hq he) (held_inside s e hs he) pays

  -- between two known places of one column: the first pays cost in the way f, the second gets a gain, which is no more
  pub held_transfer : (q s e : ℕ) (f : Position → Position) (fall cost gain : ℕ) (need' : ℕ → ℕ)
      → q < r.participants → s < r.participants → e < columns_of x r → gain ≤ cost
      → total (f (position m (cell q e))) + cost ≡ total (position m (cell q e))
      → (f (position m (cell q e))).blocked + fall ≡ (position m (cell q e)).blocked
      → ((j : ℕ) → need' j + only (cell q e) j fall ≡ need j)
      → Held x r (change (change m (cell q e) f) (cell s e) (receive gain)) need'
  held_transfer q s e f fall cost gain need' hq hs he less pays frees needs =
      let i = held_inside q e hq he in
      let m1 = change m (cell q e) f in
      let is = held_inside s e hs he in
      let i2 : blocked_at (cell s e) < length m1 = omega (arith, is, length_change m (cell q e) f) in
      record {
        wide = h.wide;
        rows = h.rows;
        positions = length_change m1 (cell s e) (receive gain) ∙ length_change m (cell q e) f ∙ h.positions;
        blocked = λ p c hp hc.
            let a = change_law (λ (y : Position). y.blocked) m (cell q e) (cell p c) f fall 0 i (omega arith) in
            let b = still (λ (y : Position). y.blocked) m1 (cell s e) (receive gain) i2 refl (cell p c) in
            let z = only_zero (cell q e) (cell p c) in
            omega (arith, a, b, z, needs (cell p c), h.blocked p c hp hc);
        topped = λ c hc.
            omega (arith, held_total q s e f cost gain c hq hs he hc pays, column_less (eqb e c), h.topped c hc);
      }
    where
      column_less : (k : Bool) → cond k gain 0 ≤ cond k cost 0
      column_less true = less
      column_less false = omega arith

-- of money: the market's account is part of the total
module _ {r : Rules} {m : List ℕ} {need : ℕ → ℕ} (h : Held Money r m need) where
  pub held_account : (c : ℕ) → c < r.currencies → account m c ≤ total_limit Money
  held_account c hc = omega (arith, h.topped c hc)

  -- it grows by what column e has room for
  pub held_fees : (e a : ℕ) → e < r.currencies → ((c : ℕ) → c < r.currencies → total_at Money r.participants m c + cond (eqb e c) a 0 ≤ total_limit Money)
      → Held Money r (change m (cell market e) (receive a)) need
  held_fees e a he room =
      let i = held_market h e he in
      record {
        wide = h.wide;
        rows = h.rows;
        positions = length_change m (cell market e) (receive a) ∙ h.positions;
        blocked = λ p c hp hc.
            still (λ (y : Position). y.blocked) m (cell market e) (receive a) i refl (cell p c) ∙ h.blocked p c hp hc;
        topped = λ c hc.
            let t = total_account r.participants c e a m h.rows (omega (arith, h.wide)) (omega (arith, h.wide)) i in
            omega (arith, t, room c hc);
      }
