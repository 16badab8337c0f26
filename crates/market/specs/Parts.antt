-- The calls of a trading day as the code behind the public calls has them: on a lent floor, under rules.
use Rattle.std.specs.Prelude.{ℕ, ◌≤◌, ◌≡◌, List, true}
use Rattle.market.specs.declared.Answer.{Answer}
use Rattle.market.specs.declared.Answer.TheVariants.{Done, Refused}
use Rattle.market.specs.declared.Call as code
use Rattle.market.specs.declared.Call.TheVariants as coded
use Rattle.market.specs.declared.Floor.{Floor}
use Rattle.market.specs.declared.Listing.{Listing}
use Rattle.market.specs.declared.Move.{Move}
use Rattle.market.specs.declared.Move.TheVariants as moved
use Rattle.market.specs.declared.Rules.{Rules}
use Rattle.market.specs.declared.Session.{Session}
use Rattle.market.specs.declared.Session.TheVariants as session
use Rattle.market.specs.declared.Ticket.{Ticket}
use Rattle.market.specs.Limits.{max_lot, max_nominal, max_rate}
use Rattle.market.specs.declared.Asset.TheVariants.{Money, Pieces}
use Rattle.market.specs.Day.{row}
use Rattle.market.specs.View.{Sized, day_of}
use Rattle.market.specs.Sound.{sound}
use Rattle.market.specs.Calls.{Call, cancel, closing_order, decrease, end_collecting, end_session, increase}
use Rattle.market.specs.Calls.{linked, order, start_closing, start_collecting}
use Rattle.market.specs.Step.{step}

-- the call that a move of reserves stands for
abbrev pub move_of : Move → Call
move_of (moved.IncreaseMoney p c a) = increase Money p c a
move_of (moved.DecreaseMoney p c a) = decrease Money p c a
move_of (moved.IncreasePieces p s a) = increase Pieces p s a
move_of (moved.DecreasePieces p s a) = decrease Pieces p s a

-- the calls that start and end a session
abbrev pub start_of : Session → Call
start_of session.Closing = start_closing
start_of session.Collecting = start_collecting

abbrev pub end_of : Session → Call
end_of session.Closing = end_session
end_of session.Collecting = end_collecting

-- the call that the code's stands for; a group's members stand beside it
abbrev pub call_of : code.Call → List Ticket → Call
call_of (coded.Reserve move) ms = move_of move
call_of (coded.Order p m force) ms = order p m force
call_of (coded.Cancel p code) ms = cancel p code
call_of (coded.Group p n) ms = linked p n ms
call_of (coded.Start z) ms = start_of z
call_of (coded.ClosingOrder p side s lots) ms = closing_order p side s lots
call_of (coded.End z) ms = end_of z

-- the listing of a security: its row of the table, and the rate
abbrev pub listing : Rules → ℕ → Listing
listing r s = record { row = row r s; rate = r.rate }

-- what keeps the sums and fees of a listing small
pub record ListingOk (l : Listing) : Type 0 where
  pub lot : l.row.lot ≤ max_lot
  pub nominal : l.row.nominal ≤ max_nominal
  pub rate : l.rate ≤ max_rate

-- the day is sound, and its arrays have their lengths
pub record Ready (r : Rules) (f : Floor) : Type 0 where
  pub sized : Sized (day_of r f)
  pub sound : sound (day_of r f) ≡ true

-- "Any other refusal hands the state back as given": the very value
abbrev pub HandedBack : {A : Type 0} → A → Answer → A → Type 0
HandedBack s (Refused number place) s' = s' ≡ s
HandedBack s (Done code filled left trades) s' = Unit {0}

-- the contract of a call on a floor: answer, day and lent list are those of the definition
pub record Carries (r : Rules) (f : Floor) (l : List ℕ) (c : Call) (f' : Floor) (l' : List ℕ) (a : Answer) : Type 0 where
  pub answer : a ≡ (step (day_of r f) l c).answer
  pub day : day_of r f' ≡ (step (day_of r f) l c).day
  pub list : l' ≡ (step (day_of r f) l c).list
  pub refusal : HandedBack f a f'
