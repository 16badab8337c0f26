-- `lines::field_values` meets its contract: before byte `at` stand i fields, whose values are in `list`.
use Prim.Native.Nat.{◌-◌}
use lib.ListN.{length}
use Rattle.lines.proofs.Fields.{Left}
use Rattle.lines.proofs.field_values.Given as goal

abbrev pub invariant-loop-at : goal.invariant-loop-at
invariant-loop-at l = Left l.letter l.line l.list l.i l.at

abbrev pub decreases-loop-at : goal.decreases-loop-at
decreases-loop-at l = length l.line - l.at
