-- `pairing::free_all` meets its contract: order by order, what each needs is freed.
use native.Mathlib.Omega.{arith}
use Rattle.pairing.proofs.Leaving.{leaving_ends, leaving_frees, leaving_next, leaving_starts}
use Rattle.pairing.proofs.free_all.Goals as goal

pub loop-i-init : goal.loop-i-init
loop-i-init c = leaving_starts c.args.rules.now c.args.floor.now c.requires

pub free_need-requires : goal.free_need-requires
free_need-requires c = leaving_frees c.loop-i.invariant (omega (arith, c.loop-i-test.true, c.loop-i.invariant.count))

pub loop-i-preserved : goal.loop-i-preserved
loop-i-preserved c =
    rw c.free_need.ensures
    (leaving_next c.loop-i.invariant (omega (arith, c.loop-i-test.true, c.loop-i.invariant.count)))

pub returns-clause-day : goal.returns-clause-day
returns-clause-day c = leaving_ends c.loop-i.invariant (omega (arith, c.loop-i-test.false, c.loop-i.invariant.count))
