-- `printing::put_digits`: the digits passed are put, and those ahead are the rest's.
use native.Mathlib.Omega.{arith}
use Rattle.printing.proofs.Decimals.{decimal_length}
use Rattle.printing.proofs.Digits.{ending_ends, ending_next, ending_starts}
use Rattle.printing.proofs.put_digits.Goals as goal

pub overflow_add-end : goal.overflow_add-end
overflow_add-end c = omega (arith, c.width.ensures, decimal_length c.args.n)

pub loop-i-init : goal.loop-i-init
loop-i-init c =
    let a = c.args in
    rw c.width.ensures (ending_starts a.out.now a.at a.n (omega (arith, decimal_length a.n)))

pub loop-i-preserved : goal.loop-i-preserved
loop-i-preserved c = ending_next c.loop-i.invariant c.loop-i-test.true

pub returns : goal.returns
returns c = rw c.width.ensures (ending_ends c.loop-i.invariant c.loop-i-test.false)
