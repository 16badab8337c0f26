-- What the code lays out of each order, and what it reckons of a price; machinery of the contracts, not of the rules.
use Rattle.std.specs.Prelude.{ℕ, ◌+◌, ◌-◌, ◌≤◌, List, Bool, cond, length, min, Option, Some, None, filter_map}
use Rattle.market.specs.declared.Kind.{Kind}
use Rattle.market.specs.declared.Kind.TheVariants.{Closing, Kept, Offer}
use Rattle.market.specs.declared.Order.{Order}
use Rattle.market.specs.declared.Side.{Side}
use Rattle.market.specs.declared.Side.TheVariants.{Buy, Sell}
use Rattle.market.specs.Limits.{max_lots, max_waiting}
use Rattle.market.specs.Tests.{◌<?◌, ◌=?◌, ◌and◌, sum_of}
use Rattle.market.specs.Matching.{opposite, reaches}
use Rattle.market.proofs.Lists.{All}
use Rattle.auction.specs.declared.Level.{Level}
use Rattle.auction.specs.declared.Rung.{Rung}

-- a kept order's rung
abbrev pub rung_with : Kind → Side → ℕ → Option Rung
rung_with (Kept p) x n = Some (record { price = p; side = x; lots = n })
rung_with Closing x n = None
rung_with (Offer rate term p) x n = None

-- what an order comes to in security s: a rung of a kept one of it, else none
abbrev pub rung_of : ℕ → Order → Option Rung
rung_of s o = cond (s =? o.security) (rung_with o.kind o.side o.lots) None

-- the rungs of orders, in their order
abbrev pub rungs_of : ℕ → List Order → List Rung
rungs_of s w = filter_map (rung_of s) w

-- few enough rungs with few enough lots that the lots can be added up
pub record FewRungs (l : List Rung) : Type 0 where
  pub room : length l ≤ max_waiting
  pub lots : All (λ r. r.lots ≤ max_lots) l

-- the lots of a rung that an order of this side meets at price p
abbrev pub lots_from : Side → ℕ → Rung → ℕ
lots_from x p r = cond (opposite x r.side and reaches x (Kept p) (Kept r.price)) r.lots 0

-- of all rungs
unfoldable pub lots_on : Side → ℕ → List Rung → ℕ
lots_on x p l = sum_of (lots_from x p) l

-- what a price comes to: a sell at it meets the lots wanted, a buy at it those offered
abbrev pub level_of : List Rung → ℕ → Level
level_of l p = record {
  price = p;
  volume = min (lots_on Sell p l) (lots_on Buy p l);
  gap = (lots_on Sell p l - lots_on Buy p l) + (lots_on Buy p l - lots_on Sell p l);
}

-- most lots, then the smaller gap, then the lower price: a goes before b
unfoldable pub ahead : Level → Level → Bool
ahead a b =
    cond (a.volume =? b.volume) (cond (a.gap =? b.gap) (a.price <? b.price) (a.gap <? b.gap))
    (b.volume <? a.volume)
