-- A State, and the parts of one, seen as a day; machinery of the contracts, not of the rules.
use Rattle.std.specs.Prelude.{ℕ, zero, suc, List, [], ◌∷◌, ◌≡◌, length}
use Rattle.market.specs.declared.Floor.{Floor}
use Rattle.market.specs.declared.Order.{Order}
use Rattle.market.specs.declared.Rules.{Rules}
use Rattle.market.specs.declared.State.{State}
use Rattle.market.specs.Limits.{max_participants, max_securities, position_numbers}
use Rattle.market.specs.Day.{Day, no_order}

-- "Places past the counts aren't read": the first n of an array, blanks past its end, so that a count above its length shows
-- as a list that is too long
abbrev pub first_of : {A : Type 0} → A → ℕ → List A → List A
first_of blank zero w = []
first_of blank (suc n) [] = blank ∷ first_of blank n []
first_of blank (suc n) (x ∷ w) = x ∷ first_of blank n w

-- the first n orders
abbrev pub first_orders : ℕ → List Order → List Order
first_orders n w = first_of no_order n w

-- the day on a floor, under these rules
abbrev pub day_of : Rules → Floor → Day
day_of r f = record {
  rules = r;
  money = f.money;
  pieces = f.pieces;
  waiting = first_orders f.count f.orders;
  codes = f.codes;
  phase = f.phase;
  turnover = f.turnover;
}

-- the day that a State holds
abbrev pub view : State → Day
view s = day_of s.rules s.floor

-- the arrays of a State have these lengths
pub record Sized (d : Day) : Type 0 where
  pub table : length d.rules.table ≡ max_securities
  pub money : length d.money ≡ position_numbers
  pub pieces : length d.pieces ≡ position_numbers
  pub codes : length d.codes ≡ max_participants
  pub turnover : length d.turnover ≡ max_securities
