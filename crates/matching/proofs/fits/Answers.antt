-- `matching::fits` meets its contract: security, sides and prices in turn.
use Rattle.std.proofs.Common.{arith}
use Rattle.std.proofs.lemmas.Bool.Decides.{nat_tests}
use Rattle.market.specs.Tests.{◌and◌}
use Rattle.market.specs.Matching.{fits}
use Rattle.matching.proofs.fits.Goals as goal

pub returns-then-ne : goal.returns-then-ne
unfolding fits ◌and◌
returns-then-ne c = grind (arith, nat_tests)

pub returns-else-ne : goal.returns-else-ne
unfolding fits ◌and◌
returns-else-ne c = grind (arith, nat_tests)
