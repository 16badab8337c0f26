-- `reading::members_at` meets its contract. The loop's invariant: the members from here on come to those from the
-- start on.
use Rattle.reading.proofs.MemberLines.{Passed}
use Rattle.reading.proofs.members_at.Given as goal

abbrev pub invariant-loop-i : goal.invariant-loop-i
invariant-loop-i l = Passed l.text l.from l.n l.list l.next l.i
