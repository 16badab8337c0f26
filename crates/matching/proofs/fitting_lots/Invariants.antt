-- `matching::fitting_lots` meets its contract: the sum is that of the orders passed, at most 10,000 lots each.
use Prim.Native.Nat.{◌*◌, ◌≤◌}
use mathlib.Core.Path.{◌≡◌}
use Rattle.market.specs.Limits.{max_lots}
use Rattle.market.specs.View.{first_orders}
use Rattle.market.specs.Matching.{fitting}
use Rattle.matching.proofs.fitting_lots.Given as goal

abbrev pub invariant-loop-o : goal.invariant-loop-o
invariant-loop-o l = (l.sum ≤ max_lots * l.o-index) × (l.sum ≡ fitting l.e (first_orders l.o-index l.waiting))
