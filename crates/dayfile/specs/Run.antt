-- A run of a day file in parts: what was put into the buffer, and what is still to be printed.
use Rattle.std.specs.Prelude.{ℕ, suc, ◌+◌, ◌*◌, ◌-◌, ◌≤◌, ◌<◌, ◌≡◌, List, [], ◌++◌, Bool, true, false, cond, drop, length, take}
use Rattle.market.specs.declared.Answer.TheVariants.{Refused}
use Rattle.market.specs.Tests.{◌=?◌, ◌and◌, ◌≤?◌}
use Rattle.market.specs.View.{view}
use Rattle.market.specs.Day.{Day}
use Rattle.market.specs.Sound.{sound}
use Rattle.market.specs.Answers.{is_done}
use Rattle.market.specs.Opening.{no_rules, opened}
use Rattle.printing.specs.Buffer.{Puts}
use Rattle.printing.specs.Lines.{answer_line}
use Rattle.heading.specs.Heading.{heading, max_text}
use Rattle.commands.specs.Output.{carried_out, with_room, joined, outputs_from, text_after}
pub use Rattle.commands.specs.Stand.{room}
use Rattle.dayfile.specs.declared.Run.{Run}
use Rattle.dayfile.specs.Output.{outputs, printed, too_long}

-- what the commands from here on print, and the positions after them
abbrev pub ahead : List ℕ → Run → List (List ℕ)
ahead text r = outputs_from (view r.state) r.line (drop r.at text)

-- what is still to be printed
abbrev pub left_by : Bool → List (List ℕ) → List (List ℕ)
left_by true os = []
left_by false os = os

unfoldable pub left : List ℕ → Run → List (List ℕ)
left text r = left_by r.over (ahead text r)

-- how much there is still to do, if n is how much is ahead
abbrev pub to_go_by : Bool → ℕ → ℕ
to_go_by true n = 0
to_go_by false n = suc n

unfoldable pub to_go : List ℕ → Run → ℕ
to_go text r = to_go_by r.over (length (joined (ahead text r)))

-- a run that is not over stands at a place of its text with a sound state; a command takes at most 9 lines and at least a
-- byte, so that the line's number stays small
pub record Going (text : List ℕ) (r : Run) : Type 0 where
  pub sound : sound (view r.state) ≡ true
  pub inside : r.at ≤ length text
  pub short : length text ≤ max_text
  pub line : r.line ≤ 18 + 9 * r.at

-- is a heading read? The buffer has room for its answer, and the text is not too long
abbrev pub is_read : ℕ → List ℕ → Bool
is_read size text = room ≤? size and length text ≤? max_text

-- the day after the heading and n commands; zeros where no heading is read
unfoldable pub day_reached : ℕ → List ℕ → ℕ → Day
day_reached size text n =
    cond (is_read size text) (carried_out n (heading text).day (heading text).rest) (opened no_rules)

-- a text over 65,536 bytes: its answer stands in the buffer, and the run is over, with zeros
pub record TooLong (before : List ℕ) (r : Run) (after : List ℕ) : Type 0 where
  pub over : r.over ≡ true
  pub puts : Puts before 0 (answer_line 0 (Refused too_long 0)) after r.filled
  pub state : view r.state ≡ opened no_rules

-- the beginning: what stands in the buffer makes up what is to be printed with what is left, and what has room with what
-- of that has room; what stands behind it stays. In a buffer without room for an output nothing begins
pub record Begins (text before : List ℕ) (r : Run) (after : List ℕ) : Type 0 where
  pub going : r.over ≡ false → Going text r
  pub small : length before < room → r.over ≡ true
  pub size : length after ≡ length before
  pub filled : r.filled ≤ length after
  pub whole : room ≤ length before → take r.filled after ++ joined (left text r) ≡ printed text
  pub fits : take r.filled after ++ with_room (length after - r.filled) (left text r)
      ≡ with_room (length before) (outputs text)
  pub past : drop r.filled after ≡ drop r.filled before
  -- so many commands were carried out after the heading: the state is the definition's day after them, and where the run is
  -- over there are no more
  pub count : ℕ
  pub day : view r.state ≡ day_reached (length before) text count
  pub rest : r.over ≡ false → drop r.at text ≡ text_after count (heading text).rest
  pub all : r.over ≡ true → is_read (length before) text ≡ true → is_done (heading text).answer ≡ true
      → text_after count (heading text).rest ≡ []

-- r' goes on from r: what stands in the buffer makes up the same as before with what is left, and with what of that has
-- room; what stands behind it stays, and less is to do
pub record Continues (text : List ℕ) (r : Run) (before : List ℕ) (r' : Run) (after : List ℕ) : Type 0 where
  pub going : r'.over ≡ false → Going text r'
  pub size : length after ≡ length before
  pub filled : r'.filled ≤ length after
  pub forward : r.filled ≤ r'.filled
  pub whole : take r'.filled after ++ joined (left text r') ≡ take r.filled before ++ joined (left text r)
  pub fits : take r'.filled after ++ with_room (length after - r'.filled) (left text r')
      ≡ take r.filled before ++ with_room (length before - r.filled) (left text r)
  pub past : drop r'.filled after ≡ drop r'.filled before
  pub less : to_go text r' < to_go text r
  -- so many commands were carried out: the state is the definition's day after them, and where the run is over there are
  -- no more
  pub count : ℕ
  pub day : view r'.state ≡ carried_out count (view r.state) (drop r.at text)
  pub rest : drop r'.at text ≡ text_after count (drop r.at text)
  pub all : r'.over ≡ true → drop r'.at text ≡ []

-- r' goes on from r as far as the buffer has room
pub record Fills (text : List ℕ) (r : Run) (before : List ℕ) (r' : Run) (after : List ℕ) : Type 0 where
  pub continues : Continues text r before r' after
  pub full : r'.over ≡ false → length after < r'.filled + room

-- what a buffer of this size takes of the day
abbrev pub taken : ℕ → List ℕ → List ℕ
taken size text = with_room size (outputs text)

-- the whole day in one buffer: what the buffer takes stands at its start, what stood behind it stays; n is how many bytes
-- that is if it is all that is printed, else 0
pub record Prints (text before : List ℕ) (n : ℕ) (after : List ℕ) : Type 0 where
  pub size : length after ≡ length before
  pub buffer : after ≡ taken (length before) text ++ drop (length (taken (length before) text)) before
  pub number : n
      ≡ cond (length (taken (length before) text) =? length (printed text)) (length (taken (length before) text)) 0
