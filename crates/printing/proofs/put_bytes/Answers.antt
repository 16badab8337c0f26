-- `printing::put_bytes`: the bytes are copied over the part that they fill.
use Rattle.printing.proofs.Buffer.{puts_part}
use Rattle.printing.proofs.put_bytes.Goals as goal

pub returns : goal.returns
returns c = puts_part _ _ _ _ c.requires c.copy_from_slice.ensures.after
