-- `script::ending::put_orders`: at most a line's room is taken for each one passed.
use Rattle.std.proofs.Common.{◌+◌, ◌*◌, ◌≤◌}
use Rattle.script.specs.Rooms.{waits_room}
use Rattle.script.proofs.ending.put_orders.Given as goal

abbrev pub invariant-loop-order : goal.invariant-loop-order
invariant-loop-order l = l.end ≤ l.initial.end + l.order-index * waits_room
