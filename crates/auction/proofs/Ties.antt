-- Which of two prices goes first: most lots, then the smaller gap, then the lower price.
use Prim.Native.Nat.{ℕ}
use native.Mathlib.Omega.{arith}
use mathlib.Core.Path.{◌≡◌, refl, sym}
use mathlib.Core.List.{List, [], ◌∷◌, ◌++◌}
use mathlib.Core.Bool.{Bool, true, false, cond}
use borrow.Author.Tests.{eqb-true, eqb-false, ltb-true, ltb-false}
use Rattle.market.specs.declared.Order.{Order}
use Rattle.market.specs.Tests.{◌<?◌, ◌=?◌}
use Rattle.market.specs.Auction.{gap, leading, precedes, volume}
use Rattle.market.proofs.Lists.{All}
use Rattle.auction.specs.Laws.{Behind}

-- what the comparison's answer says of the two
abbrev Judged : List Order → ℕ → ℕ → ℕ → Bool → Type 0
Judged w s p q true = Behind w s q p
Judged w s p q false = Behind w s p q

module _ (w : List Order) (s : ℕ) where
  pub behind_self : (p : ℕ) → Behind w s p p
  behind_self p = record { lots = omega arith; gaps = λ e. omega arith; price = λ e f. omega arith }

  pub behind_trans : (p q r : ℕ) → Behind w s p q → Behind w s q r → Behind w s p r
  behind_trans p q r h k =
      let l = h.lots in
      let m = k.lots in
      record {
        lots = omega arith;
        gaps = λ e. omega (arith, h.gaps (omega arith), k.gaps (omega arith));
        price = λ e f.
            let g = h.gaps (omega arith) in
            let i = k.gaps (omega arith) in
            omega (arith, h.price (omega arith) (omega arith), k.price (omega arith) (omega arith));
      }

  judged : (p q : ℕ) → Judged w s p q (precedes w s p q)
  unfolding precedes
  judged p q = go (volume w s p =? volume w s q) refl
    where
      by_price : volume w s p ≡ volume w s q → gap w s p ≡ gap w s q → (k : Bool) → (p <? q) ≡ k → Judged w s p q k
      by_price v g true e =
          let l = ltb-true p q e in
          record { lots = omega arith; gaps = λ x. omega arith; price = λ x y. omega arith }
      by_price v g false e =
          let l = ltb-false p q e in
          record { lots = omega arith; gaps = λ x. omega arith; price = λ x y. omega arith }

      by_gap : volume w s p ≡ volume w s q → (gap w s p ≡ gap w s q → ⊥) → (k : Bool)
          → (gap w s p <? gap w s q) ≡ k → Judged w s p q k
      by_gap v n true e =
          let l = ltb-true (gap w s p) (gap w s q) e in
          record { lots = omega arith; gaps = λ x. omega arith; price = λ x y. absurd (n (sym y)) }
      by_gap v n false e =
          let l = ltb-false (gap w s p) (gap w s q) e in
          record { lots = omega arith; gaps = λ x. omega arith; price = λ x y. absurd (n y) }

      by_lots : (volume w s p ≡ volume w s q → ⊥) → (k : Bool) → (volume w s q <? volume w s p) ≡ k → Judged w s p q k
      by_lots n true e =
          let l = ltb-true (volume w s q) (volume w s p) e in
          record { lots = omega arith; gaps = λ x. absurd (n (sym x)); price = λ x y. absurd (n (sym x)) }
      by_lots n false e =
          let l = ltb-false (volume w s q) (volume w s p) e in
          record { lots = omega arith; gaps = λ x. absurd (n x); price = λ x y. absurd (n x) }

      ties : volume w s p ≡ volume w s q → (g : Bool) → (gap w s p =? gap w s q) ≡ g
          → Judged w s p q (cond g (p <? q) (gap w s p <? gap w s q))
      ties v true e = by_price v (eqb-true (gap w s p) (gap w s q) e) (p <? q) refl
      ties v false e = by_gap v (eqb-false (gap w s p) (gap w s q) e) (gap w s p <? gap w s q) refl

      go : (v : Bool) → (volume w s p =? volume w s q) ≡ v
          → Judged w s p q
          (cond v (cond (gap w s p =? gap w s q) (p <? q) (gap w s p <? gap w s q)) (volume w s q <? volume w s p))
      go true e = ties (eqb-true (volume w s p) (volume w s q) e) (gap w s p =? gap w s q) refl
      go false e = by_lots (eqb-false (volume w s p) (volume w s q) e) (volume w s q <? volume w s p) refl

  -- the first of two prices
  pub first_two : (p q : ℕ) → let r : ℕ = cond (precedes w s p q) p q in Behind w s p r × Behind w s q r
  first_two p q = go (precedes w s p q) (judged p q)
    where
      go : (k : Bool) → Judged w s p q k → Behind w s p (cond k p q) × Behind w s q (cond k p q)
      go true h = (behind_self p, h)
      go false h = (h, behind_self q)

  -- a price behind the other leaves it
  pub behind_stays : (p q : ℕ) → Behind w s p q → cond (precedes w s p q) p q ≡ q
  behind_stays p q h = go (precedes w s p q) (judged p q)
    where
      go : (k : Bool) → Judged w s p q k → cond k p q ≡ q
      go true j =
          let v : volume w s p ≡ volume w s q = omega (arith, h.lots, j.lots) in
          let g : gap w s p ≡ gap w s q = omega (arith, h.gaps v, j.gaps (sym v)) in
          omega (arith, h.price v g, j.price (sym v) (sym g))
      go false j = refl

  -- none of the prices goes before the leading one
  pub lead_first : (l : List ℕ) (q : ℕ) → Behind w s q (leading w s q l) × All (λ p. Behind w s p (leading w s q l)) l
  unfolding leading
  lead_first [] q = (behind_self q, tt)
  lead_first (p ∷ l) q =
      let r = cond (precedes w s p q) p q in
      let a = first_two p q in
      let b = lead_first l r in
      (behind_trans _ _ _ a.1 b.0, (behind_trans _ _ _ a.0 b.0, b.1))

  -- the leading price is one of them
  pub lead_one : (P : ℕ → Type 0) (l : List ℕ) (q : ℕ) → P q → All P l → P (leading w s q l)
  unfolding leading
  lead_one P [] q h a = h
  lead_one P (p ∷ l) q h a = lead_one P l _ (go (precedes w s p q)) a.1
    where
      go : (k : Bool) → P (cond k p q)
      go true = a.0
      go false = h

  -- one price more
  pub lead_next : (l : List ℕ) (q p : ℕ) → let r : ℕ = leading w s q l in
      leading w s q (l ++ (p ∷ [])) ≡ cond (precedes w s p r) p r
  unfolding leading
  lead_next [] q p = refl
  lead_next (x ∷ l) q p = lead_next l _ p
