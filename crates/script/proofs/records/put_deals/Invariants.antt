-- `script::records::put_deals`: at most a line's room is taken for each one passed.
use Rattle.std.proofs.Common.{◌+◌, ◌*◌, ◌≤◌}
use Rattle.script.specs.Rooms.{deal_room}
use Rattle.script.proofs.records.put_deals.Given as goal

abbrev pub invariant-loop-i : goal.invariant-loop-i
invariant-loop-i l = l.end ≤ l.initial.end + l.i * deal_room
