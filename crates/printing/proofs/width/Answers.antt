-- `printing::width`: a number has one digit more than its logarithm says.
use Rattle.printing.proofs.Decimals.{decimal_log}
use Rattle.printing.proofs.width.Goals as goal

pub returns : goal.returns
returns c =
    let e = c.ilog10.ensures in
    decimal_log c.args.n _ (rw c.max.ensures at e.power_le) (rw c.max.ensures at e.next_power_gt) e.bound
