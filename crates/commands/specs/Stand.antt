-- Where the commands of a text stand: what was put into the buffer, and what is still to be printed.
use Rattle.std.specs.Prelude.{ℕ, ◌+◌, ◌*◌, ◌-◌, ◌≤◌, ◌≡◌, List, ◌++◌, Bool, false, drop, length, take}
use Rattle.market.specs.declared.Floor.{Floor}
use Rattle.market.specs.declared.Rules.{Rules}
use Rattle.market.specs.Tests.{◌<?◌, ◌≤?◌, ◌and◌}
use Rattle.market.specs.View.{day_of}
use Rattle.market.specs.Parts.{Ready}
use Rattle.heading.specs.Heading.{max_text}
use Rattle.commands.specs.declared.Stand.{Stand}
use Rattle.commands.specs.Output.{carried_out, with_room, joined, outputs_from, text_after}
pub use Rattle.commands.specs.Output.{room}

-- what is still to be printed
abbrev pub to_print : List ℕ → Rules → Floor → Stand → List (List ℕ)
to_print text r f s = outputs_from (day_of r f) s.line (drop s.at text)

-- a sound day, at a place of the text; a command takes at most 9 lines and at least a byte, so that the line's number
-- stays small
pub record Going (text : List ℕ) (r : Rules) (f : Floor) (s : Stand) : Type 0 where
  pub ready : Ready r f
  pub inside : s.at ≤ length text
  pub short : length text ≤ max_text
  pub line : s.line ≤ 18 + 9 * s.at

-- any number of commands further, none included: what stands in the buffer makes up the same with what is to be printed,
-- and with what of that has room; what stands behind it stays
pub record Onward (text : List ℕ) (r : Rules) (f : Floor) (s : Stand) (before : List ℕ) (f' : Floor) (s' : Stand)
    (after : List ℕ) : Type 0 where
  pub going : Going text r f' s'
  pub size : length after ≡ length before
  pub filled : s'.filled ≤ length after
  pub forward : s.filled ≤ s'.filled
  pub whole : take s'.filled after ++ joined (to_print text r f' s')
      ≡ take s.filled before ++ joined (to_print text r f s)
  pub fits : take s'.filled after ++ with_room (length after - s'.filled) (to_print text r f' s')
      ≡ take s.filled before ++ with_room (length before - s.filled) (to_print text r f s)
  pub past : drop s'.filled after ≡ drop s'.filled before
  -- so many commands were carried out: day and text are the definition's after them
  pub count : ℕ
  pub day : day_of r f' ≡ carried_out count (day_of r f) (drop s.at text)
  pub rest : drop s'.at text ≡ text_after count (drop s.at text)

-- is there a command, and room for it?
abbrev pub goes_on : ℕ → ℕ → ℕ → ℕ → Bool
goes_on length at size filled = (at <? length) and (filled + room ≤? size)

-- the commands as far as the buffer has room
pub record Runs (text : List ℕ) (r : Rules) (f : Floor) (s : Stand) (before : List ℕ) (f' : Floor) (s' : Stand)
    (after : List ℕ) : Type 0 where
  pub onward : Onward text r f s before f' s' after
  pub stops : goes_on (length text) s'.at (length after) s'.filled ≡ false
