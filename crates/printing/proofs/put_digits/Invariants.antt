-- `printing::put_digits`: the digits passed are put, and those ahead are the rest's.
use Rattle.printing.proofs.Digits.{Ending}
use Rattle.printing.proofs.put_digits.Given as goal

abbrev pub invariant-loop-i : goal.invariant-loop-i
invariant-loop-i l = Ending l.initial.out l.at l.n l.out l.rest l.i
