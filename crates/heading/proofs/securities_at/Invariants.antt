-- `heading::securities_at` meets its contract. The loop's invariant: the lines come to what those from here on come to.
use Rattle.heading.proofs.SecurityLines.{Passed}
use Rattle.heading.proofs.securities_at.Given as goal

abbrev pub invariant-loop-i : goal.invariant-loop-i
invariant-loop-i l = Passed l.text l.from l.n l.table l.next l.i
