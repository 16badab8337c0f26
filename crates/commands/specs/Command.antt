-- What a line of the day file does: the call that it makes.
use Rattle.std.specs.Prelude.{ℕ, ◌≤◌, ◌≡◌, List, length}
use Rattle.market.specs.declared.Answer.{Answer}
use Rattle.market.specs.declared.Floor.{Floor}
use Rattle.market.specs.declared.Rules.{Rules}
use Rattle.market.specs.declared.Ticket.{Ticket}
use Rattle.market.specs.Limits.{lent_at_least, max_trades}
use Rattle.market.specs.Day.{Day}
use Rattle.market.specs.View.{day_of}
use Rattle.market.specs.TradeList.{written}
use Rattle.market.specs.Answers.{Result, numbers_of, refused}
use Rattle.market.specs.Calls.{Call}
use Rattle.market.specs.Step.{result}
use Rattle.market.specs.Parts.{Ready, call_of}
use Rattle.lines.specs.declared.Line.{Line}
use Rattle.lines.specs.declared.Line.TheVariants as line
use Rattle.heading.specs.Heading.{malformed}

-- a call that is lent room for 136 trades
abbrev pub called : Day → Call → Result
called d c = result d lent_at_least c

-- "A malformed line, or an H, S or M out of its place, answers 19"
unfoldable pub carried : Day → Line → List Ticket → Result
carried d (line.Call c) ms = called d (call_of c ms)
carried d (line.Heading a b c) ms = refused d malformed 0
carried d (line.Security a b c) ms = refused d malformed 0
carried d (line.Member m) ms = refused d malformed 0
carried d line.Malformed ms = refused d malformed 0

-- answer, day and trade list are those of a result; the day stays sound, and the answered trades are those made, no more
-- than the lent list takes
pub record Does (x : Result) (r : Rules) (lent : List ℕ) (f' : Floor) (list' : List ℕ) (a : Answer) : Type 0 where
  pub answer : a ≡ x.answer
  pub day : day_of r f' ≡ x.day
  pub list : list' ≡ written x.trades lent
  pub ready : Ready r f'
  pub trades : (numbers_of a).trades ≡ length x.trades
  pub few : length x.trades ≤ max_trades
  pub size : length list' ≡ length lent
