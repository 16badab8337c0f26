-- `script::ending::put_order` meets its contract.
use Rattle.std.proofs.Common.{arith, rules}
use Rattle.printing.proofs.Lines.{fields_length}
use Rattle.script.proofs.Lengths.{ends}
use Rattle.script.proofs.ending.put_order.Goals as goal

pub put_side-c-requires : goal.put_side-c-requires
put_side-c-requires c =
    let whose = ends c.put_fields-b.ensures (fields_length _) in
    omega arith

pub put_fields-d-requires : goal.put_fields-d-requires
put_fields-d-requires c =
    let whose = ends c.put_fields-b.ensures (fields_length _) in
    omega arith

pub put_kind-requires : goal.put_kind-requires
put_kind-requires c =
    let whose = ends c.put_fields-b.ensures (fields_length _) in
    let what = ends c.put_fields-d.ensures (fields_length _) in
    omega arith

pub returns : goal.returns
returns c =
    let whose = ends c.put_fields-b.ensures (fields_length _) in
    let what = ends c.put_fields-d.ensures (fields_length _) in
    record { size = search rules; most = omega arith }
