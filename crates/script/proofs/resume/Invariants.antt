-- `script::resume` meets its contract. The loop's invariant: where the buffer has no more room, a command was carried out.
use Rattle.std.proofs.Common.{◌≡◌, ◌+◌, ◌-◌, ◌<◌, ◌≤◌, false, length}
use Rattle.script.specs.Rooms.{room}
use Rattle.script.specs.Playing.{max_lent}
use Rattle.script.proofs.resume.Given as goal

abbrev pub invariant-loop-p : goal.invariant-loop-p
invariant-loop-p l =
    (length l.trades ≡ max_lent)
    × (room ≤ length l.out)
    × (length l.out ≡ length l.initial.out)
    × (l.p.lent ≤ max_lent)
    × (l.p.over ≡ false)
    × (l.p.filled ≤ length l.out)
    × (l.initial.p.at ≤ l.p.at)
    × (length l.out < l.p.filled + room → (l.initial.p.at < l.p.at) × (l.p.at ≤ length l.text))

abbrev pub decreases-loop-p : goal.decreases-loop-p
decreases-loop-p l = length l.text - l.p.at
