-- `matching::fill` meets its contract: the search keeps the best of the orders passed, and each turn leaves what the
-- definition's fill comes to as it was.
use Prim.Native.Nat.{◌-◌}
use Rattle.matching.specs.Orders.{coded}
use Rattle.matching.proofs.Going.{Going}
use Rattle.matching.proofs.Search.{Seeks}
use Rattle.matching.proofs.fill.Given as goal

abbrev pub invariant-search : goal.invariant-search
invariant-search l = Seeks l.e l.floor.orders l.reach l.count l.i l.best l.bound

abbrev pub decreases-search : goal.decreases-search
decreases-search l = l.count - l.i

abbrev pub invariant-fill : goal.invariant-fill
invariant-fill l =
    Going (record { r = l.rules; f = coded l.fn.floor l.e; e = l.e; v = l.fn.trades }) l.floor l.trades l.left l.made

abbrev pub decreases-fill : goal.decreases-fill
decreases-fill l = l.left
