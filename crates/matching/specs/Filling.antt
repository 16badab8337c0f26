-- The fill of an entry on a lent floor, as the code's contract has it.
use Rattle.std.specs.Prelude.{ℕ, ◌*◌, ◌≤◌, ◌≡◌, List, length}
use Rattle.market.specs.declared.Floor.{Floor}
use Rattle.market.specs.declared.Order.{Order}
use Rattle.market.specs.declared.Rules.{Rules}
use Rattle.market.specs.Limits.{numbers_per_trade}
use Rattle.market.specs.Day.{with_lots}
use Rattle.market.specs.View.{day_of}
use Rattle.market.specs.TradeList.{written}
use Rattle.market.specs.Matching.{Filled, fill}
use Rattle.invariant.specs.Standing.{InFlight}
use Rattle.matching.specs.declared.Matched.{Matched}
use Rattle.matching.specs.Orders.{coded}

-- once its code is given, the entry e is being matched, and there is room for a trade with each waiting order
pub record Fillable (r : Rules) (f : Floor) (e : Order) (v : List ℕ) : Type 0 where
  pub flight : InFlight (day_of r (coded f e)) e
  pub lent : numbers_per_trade * f.count ≤ length v

-- day, lots left, trades and lent list are those of a fill x of the definition
pub record FilledAs (x : Filled) (r : Rules) (e : Order) (v : List ℕ) (f' : Floor) (v' : List ℕ) (m : Matched) : Type 0 where
  pub day : day_of r f' ≡ x.day
  pub entry : with_lots e m.left ≡ x.entry
  pub count : m.trades ≡ length x.trades
  pub list : v' ≡ written x.trades v

-- it is filled on the floor with its code given
abbrev pub Fills : Rules → Floor → Order → (v : List ℕ) → Floor → (v' : List ℕ) → Matched → Type 0
Fills r f e v f' v' m = FilledAs (fill (day_of r (coded f e)) e) r e v f' v' m
