-- What an order claims of the positions of a day.
use Rattle.std.specs.Prelude.{ℕ, ◌≤◌, ◌<◌, ◌≡◌, true}
use Rattle.market.specs.declared.Floor.{Floor}
use Rattle.market.specs.declared.Order.{Order}
use Rattle.market.specs.declared.Rules.{Rules}
use Rattle.market.specs.Limits.{columns, max_lots, max_price, money_limit}
use Rattle.market.specs.Day.{Day, Position, if_money, position, positions, row}
use Rattle.market.specs.Needs.{asset_of, cell_for, limit_of, need}
use Rattle.market.specs.Positions.{change, total}
use Rattle.market.specs.Questions.{covered}
use Rattle.market.specs.Parts.{ListingOk, listing}

-- the position where it blocks
abbrev pub position_for : Day → Order → Position
position_for d o = position (positions (asset_of o.side) d) (cell_for d.rules o)

-- its need can be reckoned
pub record Reckonable (d : Day) (o : Order) : Type 0 where
  pub participant : o.participant < columns
  pub security : o.security < columns
  pub currency : (row d.rules o.security).currency < columns
  pub listing : ListingOk (listing d.rules o.security)
  pub limit : limit_of d.turnover o ≤ max_price
  pub top : o.lots ≤ max_lots

-- and blocked
pub record Blockable (d : Day) (o : Order) : Type 0 where
  pub reckonable : Reckonable d o
  pub covered : covered d o ≡ true
  pub within : total (position_for d o) ≤ money_limit

-- and freed
pub record Freeable (d : Day) (o : Order) : Type 0 where
  pub reckonable : Reckonable d o
  pub blocked : need d.rules d.turnover o ≤ (position_for d o).blocked
  pub within : total (position_for d o) ≤ money_limit

-- the floor with g of an order's need, where it blocks
abbrev pub moved : (ℕ → Position → Position) → Rules → Floor → Order → Floor
moved g r f o = record {
  phase = f.phase;
  orders = f.orders;
  count = f.count;
  codes = f.codes;
  turnover = f.turnover;
  money = if_money (asset_of o.side) (change f.money (cell_for r o) (g (need r f.turnover o))) f.money;
  pieces = if_money (asset_of o.side) f.pieces (change f.pieces (cell_for r o) (g (need r f.turnover o)));
}
