-- `orders::find` meets its contract. The loop's invariant: none of the orders passed is the one looked for.
use Rattle.std.proofs.Common.{◌≡◌}
use Rattle.market.specs.View.{first_orders}
use Rattle.market.specs.Waiting.{first_index, nowhere}
use Rattle.orders.specs.Finding.{is_own}
use Rattle.orders.proofs.find.Given as goal

abbrev pub invariant-loop-i : goal.invariant-loop-i
invariant-loop-i l = first_index (is_own l.participant l.code) (first_orders l.i l.floor.orders) ≡ nowhere
