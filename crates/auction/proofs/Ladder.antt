-- The ladder: the rungs of one order more, how few they are, and that lots and prices on it are those of the orders.
use Rattle.std.proofs.Common.{ℕ, ◌+◌, ◌<◌, ◌≤◌, ◌≡◌, List, [], ◌∷◌, ◌++◌, take, set, length, Bool, true, false, cond, Option, Some, None, arith, refl, ap, sym, ◌∙◌, append-nil}
use Rattle.std.specs.List.{cons_option}
use Rattle.std.proofs.Math.Numerals.{add-one}
use Rattle.std.proofs.Math.Seq.{take-suc-set}
use Rattle.std.proofs.lemmas.List.{take_more}
use Rattle.std.proofs.lemmas.List.Elements.{filter_map-append}
use Rattle.market.specs.declared.Kind.{Kind}
use Rattle.market.specs.declared.Kind.TheVariants as kind
use Rattle.market.specs.declared.Order.{Order}
use Rattle.market.specs.declared.Side.{Side}
use Rattle.market.specs.Limits.{max_lots}
use Rattle.market.specs.Tests.{◌=?◌, ◌and◌, sum_of}
use Rattle.market.specs.Day.{no_order, order_at}
use Rattle.market.specs.Matching.{fits, fitting, opposite, reaches}
use Rattle.market.specs.Pairing.{counterparty}
use Rattle.market.proofs.Lists.{All}
use Rattle.matching.specs.Orders.{FewLots}
use Rattle.auction.specs.declared.Rung.{Rung}
use Rattle.auction.specs.Ladder.{FewRungs, lots_from, lots_on, rung_of, rung_with, rungs_of}

-- one order more
module _ (s : ℕ) (w : List Order) (i n : ℕ) (l : List Rung) (h : i < length w) (laid : take n l ≡ rungs_of s (take i w)) where
  more : {r : Option Rung} → r ≡ rung_of s (order_at w i)
      → take n l ++ cons_option r [] ≡ rungs_of s (take (i + 1) w)
  more {r} e =
      ap (λ (m : List Rung). m ++ cons_option r []) laid
      ∙ ap (λ (o : Option Rung). rungs_of s (take i w) ++ cons_option o []) e
      ∙ sym (ap (rungs_of s) (take_more w i no_order h) ∙ filter_map-append (rung_of s) (take i w) (order_at w i ∷ []))

  -- which takes part, or doesn't
  pub laid_next : {r : Rung} → n < length l → Some r ≡ rung_of s (order_at w i)
      → take (n + 1) (set l n r) ≡ rungs_of s (take (i + 1) w)
  laid_next {r} k e = ap (λ (m : ℕ). take m (set l n r)) (add-one n) ∙ take-suc-set l n r k ∙ more e

  pub laid_same : None ≡ rung_of s (order_at w i) → take n l ≡ rungs_of s (take (i + 1) w)
  laid_same e = sym (append-nil (take n l)) ∙ more e

-- the rungs are few, as their orders are
few_rungs : (s : ℕ) (w : List Order) → length (rungs_of s w) ≤ length w
few_rungs s [] = omega arith
few_rungs s (o ∷ w) = go (rung_of s o) (few_rungs s w)
  where
    go : (r : Option Rung) → length (rungs_of s w) ≤ length w
        → length (cons_option r (rungs_of s w)) ≤ length (o ∷ w)
    go None again = omega arith
    go (Some r) again = omega arith

few_lots : (s : ℕ) (w : List Order) → All (λ o. o.lots ≤ max_lots) w → All (λ r. r.lots ≤ max_lots) (rungs_of s w)
few_lots s [] a = tt
few_lots s (o ∷ w) a = go (s =? o.security) o.kind (few_lots s w a.1)
  where
    go : (b : Bool) (k : Kind) → All (λ r. r.lots ≤ max_lots) (rungs_of s w)
        → All (λ r. r.lots ≤ max_lots) (cons_option (cond b (rung_with k o.side o.lots) None) (rungs_of s w))
    go true (kind.Kept p) again = (a.0, again)
    go true kind.Closing again = again
    go true (kind.Offer rate term p) again = again
    go false k again = again

pub rungs_few : (s : ℕ) (w : List Order) {l : List Rung} → FewLots w → l ≡ rungs_of s w → FewRungs l
rungs_few s w f e =
    rw e (record { room = omega (arith, few_rungs s w, f.room); lots = few_lots s w f.lots })

-- the lots of a rung are those that its order brings
pub lots_same : (x : Side) (p s : ℕ) (w : List Order)
    → lots_on x p (rungs_of s w) ≡ fitting (counterparty x s (kind.Kept p)) w
unfolding lots_on fitting fits ◌and◌
lots_same x p s [] = refl
lots_same x p s (o ∷ w) = go (s =? o.security) o.kind (lots_same x p s w)
  where
    none : (b : Bool) → ◌≡◌ {A = ℕ} (cond (b and false) o.lots 0) 0
    none true = refl
    none false = refl

    go : (b : Bool) (k : Kind) → lots_on x p (rungs_of s w) ≡ fitting (counterparty x s (kind.Kept p)) w
        → sum_of (lots_from x p) (cons_option (cond b (rung_with k o.side o.lots) None) (rungs_of s w))
        ≡ cond (b and opposite x o.side and reaches x (kind.Kept p) k) o.lots 0 + fitting (counterparty x s (kind.Kept p)) w
    go true (kind.Kept q) again = omega (arith, again)
    go true kind.Closing again = omega (arith, again, none (opposite x o.side))
    go true (kind.Offer rate term q) again = omega (arith, again, none (opposite x o.side))
    go false k again = omega (arith, again)
