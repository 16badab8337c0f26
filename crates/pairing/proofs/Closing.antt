-- Closing orders have no price: the first found stays the best, so that a search for them may end there.
use Prim.Native.Nat.{ℕ, ◌≤◌}
use native.Mathlib.Omega.{arith}
use mathlib.Core.Path.{◌≡◌, refl, ap, sym, ◌∙◌, subst}
use mathlib.Core.List.{List, [], ◌∷◌, ◌++◌}
use mathlib.Core.Bool.{Bool, true, false, cond}
use lib.ListN.{length, take, drop, take-append-drop}
use lib.Seq.{take-take}
use borrow.Author.Tests.{le-ltb}
use Rattle.market.specs.declared.Kind.{Kind}
use Rattle.market.specs.declared.Kind.TheVariants as kind
use Rattle.market.specs.declared.Order.{Order}
use Rattle.market.specs.declared.Side.{Side}
use Rattle.market.specs.declared.Side.TheVariants.{Buy, Sell}
use Rattle.market.specs.Day.{order_at}
use Rattle.market.specs.Needs.{kept_price}
use Rattle.market.specs.View.{first_orders}
use Rattle.market.specs.Matching.{Best, best, better, fits, found, next, none, prefer, price_of, reaches}
use Rattle.market.proofs.Logic.{never}
use Rattle.market.proofs.Matching.{Chosen, best_chosen, fit}
use Rattle.market.proofs.View.{first_take}
use Rattle.std.specs.Prelude.{Option}
use Rattle.matching.specs.declared.Found.{Found}
use Rattle.matching.specs.Search.{best_of}
use Rattle.matching.proofs.Search.{Searched}
use Rattle.pairing.specs.Pairing.{decided}

abbrev IsFound : Best → Type 0
IsFound none = ⊥
IsFound (found i p) = Unit {0}

found_before : (b : Best) → IsFound (next b) → IsFound b
found_before none h = h
found_before (found i p) h = tt

not_better : (side : Side) (p q : ℕ) → p ≡ 0 → q ≡ 0 → better side p q ≡ false
not_better Buy p q h k = le-ltb p q (omega arith)
not_better Sell p q h k = le-ltb q p (omega arith)

module _ (e : Order) (closing : e.kind ≡ kind.Closing) where
  no_price : (o : Order) → fits e o ≡ true → price_of o ≡ 0
  no_price o f = go e.side o.kind (subst (λ (k : Kind). reaches e.side k o.kind ≡ true) closing (fit e o f).price)
    where
      go : (side : Side) (k : Kind) → reaches side kind.Closing k ≡ true → kept_price k ≡ 0
      go side kind.Closing h = refl
      go Buy (kind.Kept p) h = never h
      go Sell (kind.Kept p) h = never h
      go Buy (kind.Offer rate term p) h = never h
      go Sell (kind.Offer rate term p) h = never h

  found_price : (w : List Order) (i p : ℕ) → best e w ≡ found i p → p ≡ 0
  found_price w i p q =
      let c = subst (Chosen e w) q (best_chosen e w) in
      c.2 ∙ no_price (order_at w i) c.1

  first_wins : (o : Order) (w : List Order) → fits e o ≡ true
      → prefer e.side (price_of o) (best e w) ≡ found 0 (price_of o)
  first_wins o w f = go (best e w) refl
    where
      go : (b : Best) → best e w ≡ b → prefer e.side (price_of o) b ≡ found 0 (price_of o)
      go none q = refl
      go (found i p) q = rw (not_better e.side p (price_of o) (found_price w i p q) (no_price o f))

  stays : (v w : List Order) → IsFound (best e v) → best e (v ++ w) ≡ best e v
  unfolding best
  stays [] w h = absurd h
  stays (o ∷ v) w h = go (fits e o) refl (stays v w) h
    where
      go : (k : Bool) → fits e o ≡ k → (IsFound (best e v) → best e (v ++ w) ≡ best e v)
          → IsFound (cond k (prefer e.side (price_of o) (best e v)) (next (best e v)))
          → cond k (prefer e.side (price_of o) (best e (v ++ w))) (next (best e (v ++ w)))
          ≡ cond k (prefer e.side (price_of o) (best e v)) (next (best e v))
      go true f rest h = first_wins o (v ++ w) f ∙ sym (first_wins o v f)
      go false f rest h = ap next (rest (found_before (best e v) h))

  -- what was found among the first i orders is the best of all
  search_decided : {w : List Order} {count i : ℕ} {b : Option Found} → Searched e w count i b → count ≤ length w
      → IsFound (best_of b) → best e (first_orders count w) ≡ best_of b
  search_decided {w} {count} {i} {b} h room some =
      let all = first_orders count w in
      let front : take i all ≡ first_orders i w =
      ap (take i) (first_take count w room)
      ∙ take-take i count w h.passed
      ∙ sym (first_take i w (omega (arith, h.passed))) in
      let same : best e (take i all) ≡ best_of b = ap (best e) front ∙ sym h.finds in
      ap (best e) (sym (take-append-drop i all))
      ∙ stays (take i all) (drop i all) (subst IsFound (sym same) some)
      ∙ same

-- the code's test, and what it says of both searches
module _ (x y : Order) {limit : Kind} (ex : x.kind ≡ limit) (ey : y.kind ≡ limit) {w : List Order} {count i : ℕ}
    {a b : Option Found} (ha : Searched x w count i a) (hb : Searched y w count i b) (room : count ≤ length w) where
  pub both_decided : decided limit (best_of a) (best_of b) ≡ true
      → (best x (first_orders count w) ≡ best_of a) × (best y (first_orders count w) ≡ best_of b)
  both_decided h =
      let t = go limit (best_of a) (best_of b) h in
      (search_decided x (ex ∙ t.0) ha room t.1, search_decided y (ey ∙ t.0) hb room t.2)
    where
      go : (k : Kind) (p q : Best) → decided k p q ≡ true → (k ≡ kind.Closing) × IsFound p × IsFound q
      go (kind.Kept n) p q h = never h
      go kind.Closing none q h = never h
      go kind.Closing (found j m) none h = never h
      go kind.Closing (found j m) (found k n) h = (refl, tt, tt)
      go (kind.Offer rate term n) p q h = never h
