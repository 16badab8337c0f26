-- `script::records::put_records`: deals are printed where rules and records are sound.
use Rattle.std.proofs.Common.{arith, rules}
use Rattle.printing.proofs.Lines.{worded_length}
use Rattle.script.proofs.Lengths.{ends}
use Rattle.script.proofs.records.put_records.Goals as goal

pub put_deals-requires-clause-deal_room_in_bounds : goal.put_deals-requires-clause-deal_room_in_bounds
put_deals-requires-clause-deal_room_in_bounds c =
    let dated = ends c.put_worded-end.ensures (worded_length _ _) in
    omega (arith, dated, c.requires)

pub returns-then-records_sound : goal.returns-then-records_sound
returns-then-records_sound c =
    let dated = ends c.put_worded-end.ensures (worded_length _ _) in
    record { size = search rules; most = omega (arith, dated, c.put_deals.ensures.most) }

pub returns-else-rules_sound : goal.returns-else-rules_sound
returns-else-rules_sound c =
    let dated = ends c.put_worded-end.ensures (worded_length _ _) in
    record { size = search rules; most = omega arith }
