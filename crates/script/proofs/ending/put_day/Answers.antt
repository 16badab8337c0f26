-- `script::ending::put_day`: the lines' rooms add up.
use Rattle.std.proofs.Common.{ℕ, ◌+◌, ◌≤◌, List, arith, rules, length-take}
use Rattle.printing.specs.Buffer.{Puts}
use Rattle.printing.specs.Lines.{position_lines_of}
use Rattle.script.specs.Rooms.{Counts, positions_room}
use Rattle.script.proofs.Lengths.{ends, positions_length}
use Rattle.script.proofs.ending.put_day.Goals as goal

-- where the positions end
positioned : (money pieces : List ℕ) {before after : List ℕ} {at r participants currencies securities count : ℕ}
    → Puts before at (position_lines_of participants currencies securities money pieces) after r
    → Counts participants currencies securities count → r ≤ at + positions_room
positioned m k {participants = p} {currencies = c} {securities = s} puts known =
    ends puts (positions_length p c s m k known.few_participants known.few_currencies known.few_securities)

pub put_phase-b-requires : goal.put_phase-b-requires
put_phase-b-requires c =
    omega (arith, positioned _ _ c.put_positions-a.ensures c.requires.counts, c.requires.day_room_in_bounds)

pub put_turnovers-c-requires : goal.put_turnovers-c-requires
put_turnovers-c-requires c = record {
  few = omega (arith, length-take c.args.rules.now.securities c.args.floor.now.turnover, c.requires.counts.few_securities);
  turnover_room_in_bounds = omega (
    arith,
    positioned _ _ c.put_positions-a.ensures c.requires.counts,
    c.put_phase-b.ensures.most,
    c.requires.day_room_in_bounds,
  );
}

pub put_codes-d-requires : goal.put_codes-d-requires
put_codes-d-requires c = record {
  few = omega (arith, length-take c.args.rules.now.participants c.args.floor.now.codes, c.requires.counts.few_participants);
  codes_room_in_bounds = omega (
    arith,
    positioned _ _ c.put_positions-a.ensures c.requires.counts,
    c.put_phase-b.ensures.most,
    c.put_turnovers-c.ensures.most,
    c.requires.day_room_in_bounds,
  );
}

pub put_orders-requires : goal.put_orders-requires
put_orders-requires c = record {
  few = omega (arith, length-take c.args.floor.now.count c.args.floor.now.orders, c.requires.counts.few_orders);
  waits_room_in_bounds = omega (
    arith,
    positioned _ _ c.put_positions-a.ensures c.requires.counts,
    c.put_phase-b.ensures.most,
    c.put_turnovers-c.ensures.most,
    c.put_codes-d.ensures.most,
    c.requires.day_room_in_bounds,
  );
}

pub returns : goal.returns
returns c = record {
  size = search rules;
  most = omega (
    arith,
    positioned _ _ c.put_positions-a.ensures c.requires.counts,
    c.put_phase-b.ensures.most,
    c.put_turnovers-c.ensures.most,
    c.put_codes-d.ensures.most,
    c.put_orders.ensures.most,
  );
}
