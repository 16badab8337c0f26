-- What the commands of a text print, and how much of it a buffer takes.
use Rattle.std.specs.Prelude.{ℕ, zero, suc, ◌+◌, ◌-◌, List, [], ◌∷◌, ◌++◌, cond, length}
use Rattle.market.specs.Tests.{◌≤?◌}
use Rattle.market.specs.Day.{Day}
use Rattle.market.specs.Answers.{Result}
use Rattle.reading.specs.Commands.{yield}
use Rattle.printing.specs.Lines.{answer_line, position_lines, trade_lines}
use Rattle.commands.specs.Command.{carried}

-- "Each command prints `A,line,..`, then its `T` lines"
unfoldable pub command_lines : ℕ → Result → List ℕ
command_lines line r = answer_line line r.answer ++ trade_lines r.trades

-- the outputs of a text's commands, on a day, from a line number on, and the last one: "After all come the lines M ..,
-- then the lines Q ..". Each command takes at least a byte, so that `rounds` above the text's length are enough
unfoldable pub outputs_by : ℕ → Day → ℕ → List ℕ → List (List ℕ)
outputs_by zero d line t = []
outputs_by (suc rounds) d line [] = position_lines d ∷ []
outputs_by (suc rounds) d line (x ∷ t) =
    let y = yield (x ∷ t) in
    let r = carried d y.says y.members in
    command_lines line r ∷ outputs_by rounds r.day (line + y.lines) y.rest

unfoldable pub outputs_from : Day → ℕ → List ℕ → List (List ℕ)
outputs_from d line t = outputs_by (suc (length t)) d line t

-- the day after the first n commands of a text, and what is left of the text then
abbrev pub carried_out : ℕ → Day → List ℕ → Day
carried_out zero d t = d
carried_out (suc n) d t = carried_out n (carried d (yield t).says (yield t).members).day (yield t).rest

abbrev pub text_after : ℕ → List ℕ → List ℕ
text_after zero t = t
text_after (suc n) t = text_after n (yield t).rest

-- outputs one behind another
abbrev pub joined : List (List ℕ) → List ℕ
joined [] = []
joined (o ∷ os) = o ++ joined os

-- what an output takes of a buffer at most
abbrev pub room : ℕ
room = 32768

-- outputs one behind another as far as each begins with that much room, in a buffer with n bytes left
unfoldable pub with_room : ℕ → List (List ℕ) → List ℕ
with_room n [] = []
with_room n (o ∷ os) = cond (room ≤? n) (o ++ with_room (n - length o) os) []
