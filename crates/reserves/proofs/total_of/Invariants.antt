-- `reserves::total_of` meets its contract: what counts beside the participants, and the sum over those passed.
use Rattle.std.proofs.Common.{◌≡◌, ◌+◌}
use Rattle.market.specs.Tests.{sum_below}
use Rattle.market.specs.Day.{cell, position}
use Rattle.market.specs.Positions.{total}
use Rattle.reserves.proofs.total_of.Given as goal

abbrev pub invariant-loop-p : goal.invariant-loop-p
invariant-loop-p l = l.sum ≡ l.initial.sum + sum_below l.p (λ q. total (position l.positions (cell q l.column)))
