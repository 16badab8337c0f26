-- What the program prints for a text: the heading's answer, a command after another, at last the positions.
use Rattle.std.specs.Prelude.{ℕ, List, [], ◌∷◌, cond, length}
use Rattle.market.specs.declared.Answer.TheVariants.{Refused}
use Rattle.market.specs.Tests.{◌<?◌}
use Rattle.market.specs.Answers.{is_done}
use Rattle.printing.specs.Lines.{answer_line}
use Rattle.heading.specs.Heading.{Headed, heading, max_text}
use Rattle.commands.specs.Output.{joined, outputs_from}

-- "A text over 65,536 bytes answers 20"
abbrev pub too_long : ℕ
too_long = 20

-- the heading's answer, and where it is accepted the outputs after it
abbrev pub after_heading : Headed → List (List ℕ)
after_heading h =
    answer_line h.line h.answer ∷ cond (is_done h.answer) (outputs_from h.day h.next h.rest) []

-- "A text over 65,536 bytes answers 20 with line 0, nothing else"
unfoldable pub outputs : List ℕ → List (List ℕ)
outputs t = cond (max_text <? length t) (answer_line 0 (Refused too_long 0) ∷ []) (after_heading (heading t))

-- all of them
abbrev pub printed : List ℕ → List ℕ
printed t = joined (outputs t)
