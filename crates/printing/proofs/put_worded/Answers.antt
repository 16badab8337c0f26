-- `printing::put_worded` meets its contract.
use native.Mathlib.Omega.{arith}
use Rattle.printing.specs.Lines.{worded_line}
use Rattle.printing.proofs.Buffer.{puts_then}
use Rattle.printing.proofs.Lines.{fields_length}
use Rattle.printing.proofs.put_worded.Goals as goal

pub put_byte-requires : goal.put_byte-requires
put_byte-requires c = omega (arith, fields_length c.args.numbers.now)

pub returns : goal.returns
unfolding worded_line
returns c =
    puts_then c.put_bytes-fields.ensures
    (puts_then c.put_fields-end.ensures c.put_byte.ensures)
