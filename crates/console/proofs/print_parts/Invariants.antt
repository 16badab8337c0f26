-- `console::print_parts` ends: each part leaves less to do.
use Rattle.std.proofs.Common.{◌≤◌, ◌≡◌, false, length}
use Rattle.dayfile.specs.Run.{Going, room, to_go}
use Rattle.console.proofs.print_parts.Given as goal

abbrev pub invariant-loop-r : goal.invariant-loop-r
invariant-loop-r g l =
    (l.r.over ≡ false → Going l.text l.r) × (room ≤ length l.out) × (l.r.filled ≤ length l.out) × (length l.out ≡ length l.initial.out)

abbrev pub decreases-loop-r : goal.decreases-loop-r
decreases-loop-r g l = to_go l.text l.r
