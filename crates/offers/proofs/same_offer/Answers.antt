-- `offers::same_offer` meets its contract: price, rate and term, number by number.
use native.Mathlib.Omega.{arith}
use Rattle.std.proofs.lemmas.Grind.{common_steps}
use Rattle.market.specs.Tests.{◌and◌}
use Rattle.offers.proofs.same_offer.Goals as goal

pub returns-then-rate-yearly : goal.returns-then-rate-yearly
unfolding ◌and◌
returns-then-rate-yearly c = grind (arith, common_steps)

pub returns-else-rate-yearly : goal.returns-else-rate-yearly
unfolding ◌and◌
returns-else-rate-yearly c = grind (arith, common_steps)
