-- `soundness::column_sound` meets its contract: `total` is what the participants before `p` hold.
use borrow.Author.Tests.{ne_eqb}
use native.Mathlib.Omega.{arith}
use Rattle.soundness.proofs.Loops as loops
use Rattle.soundness.proofs.column_sound.Goals as goal

pub loop-p-init : goal.loop-p-init
loop-p-init c = loops.counted_none _ _ _ _ _ _

pub returns-then-blocked-needs : goal.returns-then-blocked-needs
returns-then-blocked-needs c =
    loops.blocked_fails _ _ _ _ _ _ _ _ _ c.loop-p.invariant (omega arith) _ c.cell_of-at.ensures
    (ne_eqb _ _ c.if-blocked-needs.true)

pub returns-then-limit-total : goal.returns-then-limit-total
returns-then-limit-total c =
    loops.limit_fails _ _ _ _ _ _ _ _ _ c.loop-p.invariant (omega arith) _ c.cell_of-at.ensures (omega arith)

pub returns-then-limit-total-2 : goal.returns-then-limit-total-2
returns-then-limit-total-2 c =
    loops.limit_fails _ _ _ _ _ _ _ _ _ c.loop-p.invariant (omega arith) _ c.cell_of-at.ensures (omega arith)

pub returns : goal.returns
returns c =
    rw c.account_in.ensures (loops.counted_all _ _ _ _ _ _ _ _ _ c.loop-p.invariant (omega arith))
