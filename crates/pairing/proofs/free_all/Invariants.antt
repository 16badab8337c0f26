-- `pairing::free_all` meets its contract: order by order, what each needs is freed.
use Rattle.pairing.proofs.Leaving.{Leaving}
use Rattle.pairing.proofs.free_all.Given as goal

abbrev pub invariant-loop-i : goal.invariant-loop-i
invariant-loop-i l = Leaving l.rules l.fn.floor l.floor l.i
