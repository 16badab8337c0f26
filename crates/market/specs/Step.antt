-- What each call does, and the step that joins it with the questions.
use Rattle.std.specs.Prelude.{ℕ, zero, suc, List, [], ◌∷◌, length, take}
use Rattle.market.specs.declared.Answer.{Answer}
use Rattle.market.specs.declared.Phase.TheVariants.{Closed, Closing, Collecting, Open}
use Rattle.market.specs.Day.{Position}
use Rattle.market.specs.declared.Asset.{Asset}
use Rattle.market.specs.Day.{Day, cell, positions, with_phase, with_positions}
use Rattle.market.specs.Positions.{change, draw, receive}
use Rattle.market.specs.Waiting.{all_leave, leave, index_in, index_of}
use Rattle.market.specs.TradeList.{written}
use Rattle.market.specs.Answers.{Result, done, refused, zeros}
use Rattle.market.specs.Calls.{Call, cancel, closing_of, closing_order, decrease, end_collecting, end_session}
use Rattle.market.specs.Calls.{entry_of, increase, linked, order, start_closing, start_collecting}
use Rattle.market.specs.Sound.{sound}
use Rattle.market.specs.Questions.{Question, ask, first_no, questions}
use Rattle.market.specs.Entry.{placed, taken}
use Rattle.market.specs.Linked.{group_result, members}
use Rattle.market.specs.Pairing.{end_result, pairs_from}
use Rattle.market.specs.Closing.{closing_terms}
use Rattle.market.specs.Auction.{auction_terms}

-- f on a participant's position
abbrev pub moved : Asset → Day → ℕ → ℕ → (Position → Position) → Day
moved x d p column f = with_positions x d (change (positions x d) (cell p column) f)

-- what each call does where its questions are all answered "yes"
unfoldable pub effect : Day → Call → Result
effect d (increase x p column a) = zeros (moved x d p column (receive a))
effect d (decrease x p column a) = zeros (moved x d p column (draw a))
effect d (order p m k) = taken d (entry_of d p m) k
effect d (cancel p code) = done code 0 0 (leave d (index_in (index_of p code d.waiting))) []
effect d (linked p count ms) = group_result d p (members 1 d p (take count ms))
effect d start_closing = zeros (all_leave d Closing)
effect d (closing_order p side s lots) = placed d (closing_of d p side s lots)
effect d end_session = end_result Closed (pairs_from closing_terms d.rules.securities 0 d)
effect d start_collecting = zeros (with_phase d Collecting)
effect d end_collecting = end_result Open (pairs_from auction_terms d.rules.securities 0 d)

-- the result where the first "no" is 0, else the refusal with that number; "Place is 0 except where named"
abbrev pub answer_by : ℕ → Day → Result → Result
answer_by zero d r = r
answer_by (suc n) d r = refused d (suc n) 0

-- 1. "Is the state sound?", asked of every call before its own questions
abbrev pub all_questions : Day → ℕ → Call → List Question
all_questions d lent c = ask 1 (sound d) ∷ questions d lent c

-- the questions, then the effect
unfoldable pub result : Day → ℕ → Call → Result
result d lent c = answer_by (first_no (all_questions d lent c)) d (effect d c)

-- answer, day and lent list after a call
pub record Reply : Type 0 where
  pub answer : Answer
  pub day : Day
  pub list : List ℕ

-- the definition of a call on a day with a lent list
unfoldable pub step : Day → List ℕ → Call → Reply
step d l c =
    let r = result d (length l) c in
    record { answer = r.answer; day = r.day; list = written r.trades l }
