-- `soundness::positions_sound` meets its contract: the columns before `column` are sound.
use native.Mathlib.Omega.{arith}
use Rattle.amounts.proofs.Answers.{fails, holds}
use Rattle.soundness.proofs.Loops as loops
use Rattle.soundness.proofs.positions_sound.Goals as goal

pub loop-column-init : goal.loop-column-init
loop-column-init c = loops.passed_none _ _

pub returns-then-not-column_sound : goal.returns-then-not-column_sound
returns-then-not-column_sound c =
    loops.passed_fails _ _ _ c.loop-column.invariant (omega arith) (fails c.column_sound.ensures c.if-not-column_sound.true)

pub loop-column-preserved : goal.loop-column-preserved
loop-column-preserved c =
    loops.passed_next _ _ _ c.loop-column.invariant (omega arith) (holds c.column_sound.ensures c.if-not-column_sound.false)

pub returns : goal.returns
returns c = loops.passed_all _ _ _ c.loop-column.invariant (omega arith)
