-- `soundness::positions_sound` meets its contract: the columns before `column` are sound.
use Rattle.soundness.specs.Parts.{column_sound}
use Rattle.soundness.proofs.Loops as loops
use Rattle.soundness.proofs.positions_sound.Given as goal

abbrev pub invariant-loop-column : goal.invariant-loop-column
invariant-loop-column l = loops.Passed (column_sound l.asset l.participants l.limit l.first l.positions l.needs) l.columns l.column
