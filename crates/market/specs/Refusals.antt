-- Why a call is refused, by the numbers of the questions.
use Rattle.std.specs.Prelude.{ℕ, Result, Ok, Err}
use Rattle.market.specs.declared.Refusal.{Refusal}
use Rattle.market.specs.declared.Refusal.TheVariants.{AmountOutOfRange, CodesGiven, CountsOutOfRange, DayOutOfRange, GroupSize, ListTooShort, LoanOutOfRange, Malformed, NoCodeLeft, NoRoom, NoRoomForDeals, NominalOutOfRange, NotCovered, NotFillable, NotFound, NothingTraded, OverFree, OverTotalLimit, RateOutOfRange, TextTooLong, UnknownAsset, UnknownParticipant, Unsound, WrongLine, WrongPhase, WrongPrice}

-- the number of the question answered "no"
abbrev pub number_of : Refusal → ℕ
number_of Unsound = 1
number_of ListTooShort = 2
number_of GroupSize = 3
number_of UnknownParticipant = 4
number_of UnknownAsset = 5
number_of WrongPhase = 6
number_of AmountOutOfRange = 7
number_of WrongPrice = 8
number_of OverTotalLimit = 9
number_of OverFree = 10
number_of NothingTraded = 11
number_of NoRoom = 12
number_of NoCodeLeft = 13
number_of NotCovered = 14
number_of NotFillable = 15
number_of NotFound = 16
number_of CountsOutOfRange = 17
number_of WrongLine = 18
number_of Malformed = 19
number_of TextTooLong = 20
number_of CodesGiven = 21
number_of RateOutOfRange = 22
number_of NominalOutOfRange = 23
number_of DayOutOfRange = 24
number_of LoanOutOfRange = 25
number_of NoRoomForDeals = 26

-- and of what was asked in turn: 0 where every question is answered "yes"
abbrev pub number_in : Result Unit Refusal → ℕ
number_in (Ok _) = 0
number_in (Err r) = number_of r
