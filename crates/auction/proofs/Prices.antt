-- The price that an order writes, and the lots that it brings by it.
use Prim.Native.Nat.{ℕ, ◌<◌}
use native.Mathlib.Omega.{arith}
use mathlib.Core.Path.{◌≡◌, refl}
use mathlib.Core.Bool.{Bool, true, false, cond}
use borrow.Author.Tests.{eq-eqb, eqb-true, ne_eqb}
use Rattle.market.specs.declared.Kind.{Kind}
use Rattle.market.specs.declared.Kind.TheVariants as kind
use Rattle.market.specs.declared.Order.{Order}
use Rattle.market.specs.declared.Side.{Side}
use Rattle.market.specs.Tests.{◌=?◌, ◌and◌}
use Rattle.market.specs.Matching.{fits, fitting_lots, opposite, price_of, reaches}
use Rattle.market.specs.Pairing.{counterparty}
use Rattle.market.specs.Auction.{price_on}
use Rattle.market.specs.Needs.{is_kept, kept_price}

-- any kind but the first is not kept, and has no price to meet others at; docs/PORT.md names it, so it stays
pub not_kept : (k : Kind) → ((p : ℕ) → k ≡ kind.Kept p → ⊥) → (is_kept k ≡ false) × (kept_price k ≡ 0)
not_kept (kind.Kept p) h = absurd (h p refl)
not_kept kind.Closing h = (refl, refl)
not_kept (kind.Offer rate term p) h = (refl, refl)

-- the lots that an order of this side can meet in o: all of a kept one of security s and the other side, else 0
unfoldable pub lots_for : Side → ℕ → Order → ℕ
lots_for x s o = cond (s =? o.security and is_kept o.kind and opposite x o.side) o.lots 0

-- an order writes its price, to buy or to sell, for its own security and for no other
pub price_own : (s : ℕ) (o : Order) → s ≡ o.security → price_on s o ≡ price_of o
unfolding price_on
price_own s o e = rw (eq-eqb s o.security e)

pub price_other : (s : ℕ) (o : Order) → (s ≡ o.security → ⊥) → price_on s o ≡ 0
unfolding price_on
price_other s o n = rw (ne_eqb s o.security n)

pub priced_own : (s : ℕ) (o : Order) → 0 < price_on s o → s ≡ o.security
unfolding price_on
priced_own s o h = go (s =? o.security) refl h
  where
    go : (k : Bool) → (s =? o.security) ≡ k → 0 < cond k (price_of o) 0 → s ≡ o.security
    go true e h = eqb-true s o.security e
    go false e h = absurd (omega arith)

no_lots : (k : Bool) → ◌≡◌ {A = ℕ} 0 (cond k 0 0)
no_lots true = refl
no_lots false = refl

-- at a price p that reaches its own, an order brings all of its lots, to whoever stands on the other side
pub lots_at_lem : (x : Side) (s p : ℕ) (o : Order)
    → fitting_lots (counterparty x s (kind.Kept p)) o
    ≡ cond (reaches x (kind.Kept p) (kind.Kept (price_on s o))) (lots_for x s o) 0
unfolding fits ◌and◌ price_on lots_for
lots_at_lem x s p o = go x (s =? o.security) (opposite x o.side) o.kind
  where
    go : (x : Side) (a b : Bool) (k : Kind)
        → cond (a and b and reaches x (kind.Kept p) k) o.lots 0
        ≡ cond (reaches x (kind.Kept p) (kind.Kept (cond a (kept_price k) 0)))
        (cond (a and is_kept k and b) o.lots 0) 0
    go x true true (kind.Kept q) = refl
    go x true true kind.Closing = no_lots (reaches x (kind.Kept p) (kind.Kept 0))
    go x true false (kind.Kept q) = no_lots (reaches x (kind.Kept p) (kind.Kept q))
    go x true false kind.Closing = no_lots (reaches x (kind.Kept p) (kind.Kept 0))
    go x true true (kind.Offer rate term q) = no_lots (reaches x (kind.Kept p) (kind.Kept 0))
    go x true false (kind.Offer rate term q) = no_lots (reaches x (kind.Kept p) (kind.Kept 0))
    go x false b k = no_lots (reaches x (kind.Kept p) (kind.Kept 0))

-- where every kept price is above 0, an order that writes none brings no lots
pub unpriced : (x : Side) (s : ℕ) (o : Order) → (is_kept o.kind ≡ true → 0 < price_of o) → price_on s o ≡ 0
    → lots_for x s o ≡ 0
unfolding ◌and◌ price_on lots_for
unpriced x s o h e = go (s =? o.security) (opposite x o.side) o.kind h e
  where
    go : (a b : Bool) (k : Kind) → (is_kept k ≡ true → 0 < kept_price k) → cond a (kept_price k) 0 ≡ 0
        → cond (a and is_kept k and b) o.lots 0 ≡ 0
    go true true (kind.Kept q) h e = absurd (omega (arith, h refl))
    go true false (kind.Kept q) h e = refl
    go true b kind.Closing h e = refl
    go true b (kind.Offer rate term q) h e = refl
    go false b k h e = refl

-- a kept order of its own security and the other side
pub lots_all : (x : Side) (s : ℕ) (o : Order) → s ≡ o.security → opposite x o.side ≡ true
    → is_kept o.kind ≡ true → lots_for x s o ≡ o.lots
unfolding ◌and◌ lots_for
lots_all x s o e y k = rw (eq-eqb s o.security e, y, k)
