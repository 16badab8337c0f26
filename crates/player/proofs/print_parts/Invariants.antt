-- `player::print_parts` ends: each part leaves less to do.
use Rattle.std.proofs.Common.{◌≤◌, ◌≡◌, length}
use Rattle.script.specs.Rooms.{room}
use Rattle.script.specs.Playing.{max_lent, to_go}
use Rattle.player.proofs.print_parts.Given as goal

abbrev pub invariant-loop-p : goal.invariant-loop-p
invariant-loop-p g l =
    (l.p.lent ≤ max_lent) × (room ≤ length l.out) × (l.p.filled ≤ length l.out) × (length l.out ≡ length l.initial.out)

abbrev pub decreases-loop-p : goal.decreases-loop-p
decreases-loop-p g l = to_go l.text l.p
