-- `printing::put_fields`: a field more is put behind those before it.
use Rattle.std.proofs.Common.{arith}
use Rattle.std.proofs.Math.Seq.{take_all}
use Rattle.printing.specs.Lines.{number_fields}
use Rattle.printing.proofs.Buffer.{puts_none, puts_then}
use Rattle.printing.proofs.Lines.{fields_next, fields_room}
use Rattle.printing.proofs.put_fields.Goals as goal

pub loop-number-init : goal.loop-number-init
unfolding number_fields
loop-number-init c = (c.requires, puts_none _ _)

pub put_byte-field-requires : goal.put_byte-field-requires
put_byte-field-requires c = omega (arith, fields_room c.args.numbers.now c.loop-number.number-index (omega arith))

pub put_number-end-requires : goal.put_number-end-requires
put_number-end-requires c = omega (arith, fields_room c.args.numbers.now c.loop-number.number-index (omega arith))

pub loop-number-preserved : goal.loop-number-preserved
loop-number-preserved c = (
  c.loop-number.invariant.0,
  rw (fields_next c.args.numbers.now c.loop-number.number-index (omega arith))
      (puts_then c.loop-number.invariant.1 (puts_then c.put_byte-field.ensures c.put_number-end.ensures)),
)

pub returns : goal.returns
returns c = rw (take_all c.loop-number.number-index c.args.numbers.now c.loop-number-test.false) at c.loop-number.invariant.1
