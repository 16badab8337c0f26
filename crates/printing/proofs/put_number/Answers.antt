-- `printing::put_number` meets its contract: a number below 10 is its digit.
use native.Mathlib.Omega.{arith}
use Rattle.printing.proofs.Decimals.{one_digit}
use Rattle.printing.proofs.put_number.Goals as goal

pub returns-then-n-lt10 : goal.returns-then-n-lt10
returns-then-n-lt10 c =
    let n = c.args.n in
    rw (one_digit n (omega arith)) c.put_byte.ensures
