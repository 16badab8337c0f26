-- `printing::put_byte` meets its contract.
use Rattle.printing.proofs.Buffer.{puts_byte}
use Rattle.printing.proofs.put_byte.Goals as goal

pub returns : goal.returns
returns c = puts_byte _ _ _ c.requires
