-- Laws of offers: whom they meet, and where the two that meet stand.
use Prim.Native.Nat.{ℕ, ◌<◌}
use native.Mathlib.Omega.{arith}
use mathlib.Core.Path.{◌≡◌, refl, sym, ◌∙◌}
use mathlib.Core.List.{List, [], ◌∷◌, ◌++◌}
use mathlib.Core.Bool.{Bool, true, false, cond}
use lib.ListN.{length, length-append, get_or-append}
use borrow.Author.Tests.{eqb-true}
use Rattle.market.specs.declared.Kind.{Kind}
use Rattle.market.specs.declared.Kind.TheVariants as kind
use Rattle.market.specs.declared.Order.{Order}
use Rattle.market.specs.declared.Side.{Side}
use Rattle.market.specs.declared.Side.TheVariants.{Buy, Sell}
use Rattle.market.specs.declared.Turnover.{Turnover}
use Rattle.market.specs.Day.{no_order, order_at}
use Rattle.market.specs.Needs.{limit_of, price_or}
use Rattle.market.specs.Waiting.{Index, first_index, later, nowhere, somewhere}
use Rattle.market.specs.Matching.{fits, if_buy, opposite, reaches}
use Rattle.market.specs.Offers.{meets, same_offer}
use Rattle.market.proofs.Logic.{and_true, never}
use Rattle.market.proofs.Lists.{All}
use Rattle.market.proofs.Matching.{fit}
use Rattle.market.proofs.Pairs.{Stands}

-- what the search for the first order of which f holds finds
abbrev pub FoundAt : (Order → Bool) → List Order → Index → Type 0
FoundAt f w nowhere = Unit {0}
FoundAt f w (somewhere i) = (i < length w) × (f (order_at w i) ≡ true)

pub first_found : (f : Order → Bool) (w : List Order) → FoundAt f w (first_index f w)
first_found f [] = tt
first_found f (o ∷ w) = go (f o) refl (first_index f w) (first_found f w)
  where
    go : (k : Bool) → f o ≡ k → (x : Index) → FoundAt f w x → FoundAt f (o ∷ w) (cond k (somewhere 0) (later x))
    go true e x h = (omega arith, e)
    go false e nowhere h = tt
    go false e (somewhere i) h = (omega arith, h.1)

-- an offer fits no waiting order
abbrev pub IsOffer : Kind → Type 0
IsOffer (kind.Kept p) = ⊥
IsOffer kind.Closing = ⊥
IsOffer (kind.Offer rate term p) = Unit {0}

offer_reaches : (x : Side) (k m : Kind) → IsOffer k → reaches x k m ≡ false
offer_reaches x (kind.Kept p) m h = absurd h
offer_reaches x kind.Closing m h = absurd h
offer_reaches x (kind.Offer rate term p) m h = refl

pub offer_fits : (e : Order) → IsOffer e.kind → (w : List Order) → All (λ o. fits e o ≡ false) w
offer_fits e h [] = tt
offer_fits e h (o ∷ w) = (go (fits e o) refl, offer_fits e h w)
  where
    go : (k : Bool) → fits e o ≡ k → k ≡ false
    go true f = never (sym (offer_reaches e.side e.kind o.kind h) ∙ (fit e o f).price)
    go false f = refl

-- two offers that meet have one price, whatever the turnover
same_price : (k m : Kind) (a b : ℕ) → same_offer k m ≡ true → (price_or a k ≡ price_or 0 k) × (price_or b m ≡ price_or 0 k)
same_price (kind.Offer rate term p) (kind.Offer rate' term' q) a b e = (refl, sym (eqb-true p q (and_true e).0))
same_price (kind.Offer rate term p) (kind.Kept q) a b e = never e
same_price (kind.Offer rate term p) kind.Closing a b e = never e
same_price (kind.Kept p) m a b e = never e
same_price kind.Closing m a b e = never e

-- an order of this side and security, of n lots, whose limit is p, stands at place i
pub record OfferAt (x : Side) (s p n : ℕ) (t : List Turnover) (w : List Order) (i : ℕ) : Type 0 where
  pub stands : Stands x s w i
  pub price : limit_of t (order_at w i) ≡ p
  pub lots : (order_at w i).lots ≡ n

last_at : (w : List Order) (e : Order) → order_at (w ++ (e ∷ [])) (length w) ≡ e
last_at [] e = refl
last_at (o ∷ w) e = last_at w e

-- the entry, which stands last, and the counter offer at place i, the buy before the sell
module _ (t : List Turnover) (w : List Order) (e : Order) (i : ℕ) (h : i < length w) (m : meets e (order_at w i) ≡ true) where
  abbrev all : List Order
  all = w ++ (e ∷ [])

  abbrev At : Side → ℕ → Type 0
  At x k = OfferAt x e.security (price_or 0 e.kind) e.lots t all k

  stands_at : (o : Order) (k : ℕ) → order_at all k ≡ o → k < length all → e.security ≡ o.security
      → limit_of t o ≡ price_or 0 e.kind → o.lots ≡ e.lots → At o.side k
  stands_at o k q inside security price lots = record {
    stands = record { inside = inside; security = rw q security; side = rw q };
    price = rw q price;
    lots = rw q lots;
  }

  by_side : (x y : Side) → opposite x y ≡ true → At x (length w) → At y i
      → At Buy (if_buy x (length w) i) × At Sell (if_buy x i (length w))
  by_side Buy Buy q a b = never q
  by_side Buy Sell q a b = (a, b)
  by_side Sell Buy q a b = (b, a)
  by_side Sell Sell q a b = never q

  pub offers_meet : At Buy (if_buy e.side (length w) i) × At Sell (if_buy e.side i (length w))
  unfolding meets
  offers_meet =
      let o = order_at w i in
      let a = and_true m in
      let b = and_true a.1 in
      let c = and_true b.1 in
      let size = length-append w (e ∷ []) in
      let price = same_price e.kind o.kind _ _ c.1 in
      by_side e.side o.side c.0
      (stands_at e (length w) (last_at w e) (omega arith) refl price.0 refl)
      (stands_at o i (get_or-append w (e ∷ []) no_order i h) (omega arith) (eqb-true e.security o.security a.0)
      price.1 (sym (eqb-true e.lots o.lots b.0)))
