-- `script::head_lines::securities_at` meets its contract. Each security takes a line of the text, so that their number and the
-- lines stay small.
use Rattle.std.proofs.Common.{◌≤◌, length}
use Rattle.script.proofs.head_lines.securities_at.Given as goal

abbrev pub invariant-loop-i : goal.invariant-loop-i
invariant-loop-i l = (l.i ≤ l.next) × (l.i ≤ length l.text)
