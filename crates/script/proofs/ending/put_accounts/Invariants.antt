-- `script::ending::put_accounts`: at most a line's room is taken for each one passed.
use Rattle.std.proofs.Common.{◌+◌, ◌*◌, ◌≤◌}
use Rattle.script.specs.Rooms.{account_room}
use Rattle.script.proofs.ending.put_accounts.Given as goal

abbrev pub invariant-loop-currency : goal.invariant-loop-currency
invariant-loop-currency l = l.end ≤ l.initial.end + l.currency * account_room
