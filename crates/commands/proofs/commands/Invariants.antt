-- What each turn of the loop keeps, and the measure that gets smaller.
use Prim.Native.Nat.{◌-◌, ◌≤◌}
use mathlib.Core.Path.{◌≡◌}
use lib.ListN.{length}
use Rattle.market.specs.Limits.{lent_at_least}
use Rattle.commands.specs.Stand.{Onward, room}
use Rattle.commands.proofs.commands.Given as goal

abbrev pub invariant-loop-trades : goal.invariant-loop-trades
invariant-loop-trades l =
    Onward l.text l.rules l.initial.floor l.initial.stand l.initial.out l.floor l.stand l.out
    × (length l.trades ≡ lent_at_least) × (room ≤ length l.out)

abbrev pub decreases-loop-trades : goal.decreases-loop-trades
decreases-loop-trades l = length l.text - l.stand.at
