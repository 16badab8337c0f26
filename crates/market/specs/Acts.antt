-- The acts on a ledger: the calls of a trading day, and those of T-06. The calls have their names here too, as acts.
use Rattle.std.specs.Prelude.{ℕ, List}
use Rattle.market.specs.declared.Side.{Side}
use Rattle.market.specs.declared.Ticket.{Ticket}
use Rattle.market.specs.declared.TimeInForce.{TimeInForce}
use Rattle.market.specs.declared.Asset.{Asset}
use Rattle.market.specs.Calls as calls

pub data Act : Type 0 where
  -- a call of the trading day
  day : calls.Call → Act
  -- a repurchase offer: participant; side, security, price and lots; rate and term
  offer : ℕ → Ticket → (rate term : ℕ) → Act
  -- the second part of the deal at this place, from 1
  second_part : ℕ → Act
  -- a new day, of this date
  new_day : ℕ → Act

abbrev pub increase : Asset → ℕ → ℕ → ℕ → Act
increase x p column a = day (calls.increase x p column a)

abbrev pub decrease : Asset → ℕ → ℕ → ℕ → Act
decrease x p column a = day (calls.decrease x p column a)

abbrev pub order : ℕ → Ticket → TimeInForce → Act
order p m k = day (calls.order p m k)

abbrev pub cancel : ℕ → ℕ → Act
cancel p code = day (calls.cancel p code)

abbrev pub linked : ℕ → ℕ → List Ticket → Act
linked p count ms = day (calls.linked p count ms)

abbrev pub start_closing : Act
start_closing = day calls.start_closing

abbrev pub closing_order : ℕ → Side → ℕ → ℕ → Act
closing_order p side s lots = day (calls.closing_order p side s lots)

abbrev pub end_session : Act
end_session = day calls.end_session

abbrev pub start_collecting : Act
start_collecting = day calls.start_collecting

abbrev pub end_collecting : Act
end_collecting = day calls.end_collecting
