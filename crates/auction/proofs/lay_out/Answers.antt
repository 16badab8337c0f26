-- `auction::lay_out` meets its contract: an order's rung stands behind those of the orders before it.
use Rattle.std.proofs.Common.{arith, ap, length}
use Rattle.std.proofs.Math.ListN.{length-set}
use Rattle.auction.proofs.Ladder.{laid_next, laid_same}
use Rattle.auction.proofs.lay_out.Goals.{in-Some, in_default}
use Rattle.auction.proofs.lay_out.Goals as goal

pub loop-o-preserved : goal.loop-o-preserved
loop-o-preserved c =
    let k = c.loop-o.invariant in
    let h = c.loop-o-test.true in
    elim c.match-rung_of.branch [
      | in-Some w ↦
          let long = simp length-set at (ap length w.ladder-is) in
          (omega arith, rw (w.count-is, w.ladder-is) (laid_next _ _ _ _ _ h k.1 (omega arith) w.in-Some.ensures))
      | in_default w ↦ (omega arith, rw (w.count-is, w.ladder-is) (laid_same _ _ _ _ _ h k.1 w.in_default.ensures))
    ]
