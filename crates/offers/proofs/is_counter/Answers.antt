-- `offers::is_counter` meets its contract: security, lots, sides, then price, rate and term.
use native.Mathlib.Omega.{arith}
use Rattle.std.proofs.lemmas.Grind.{common_steps}
use Rattle.market.specs.Tests.{◌and◌}
use Rattle.market.specs.Offers.{meets}
use Rattle.offers.proofs.is_counter.Goals as goal

pub returns-then-ne : goal.returns-then-ne
unfolding ◌and◌ meets
returns-then-ne c = grind (arith, common_steps)

pub returns-else-ne : goal.returns-else-ne
unfolding ◌and◌ meets
returns-else-ne c = grind (arith, common_steps)
