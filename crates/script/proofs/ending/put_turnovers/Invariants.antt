-- `script::ending::put_turnovers`: at most a line's room is taken for each one passed.
use Rattle.std.proofs.Common.{◌+◌, ◌*◌, ◌≤◌}
use Rattle.script.specs.Rooms.{turnover_room}
use Rattle.script.proofs.ending.put_turnovers.Given as goal

abbrev pub invariant-loop-i : goal.invariant-loop-i
invariant-loop-i l = l.end ≤ l.initial.end + l.i * turnover_room
