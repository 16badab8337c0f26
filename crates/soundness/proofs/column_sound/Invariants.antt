-- `soundness::column_sound` meets its contract: `total` is what the participants before `p` hold.
use Rattle.soundness.proofs.Loops as loops
use Rattle.soundness.proofs.column_sound.Given as goal

abbrev pub invariant-loop-p : goal.invariant-loop-p
invariant-loop-p l = loops.Counted l.participants l.limit l.first l.positions l.needs l.column l.total l.p
