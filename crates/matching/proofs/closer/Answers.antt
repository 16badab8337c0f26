-- `matching::closer` meets its contract: rank, security, sides and kind in turn.
use Rattle.std.proofs.Common.{arith}
use Rattle.std.proofs.lemmas.Bool.Decides.{nat_tests}
use Rattle.market.specs.Tests.{◌and◌}
use Rattle.matching.specs.Search.{closer}
use Rattle.matching.proofs.closer.Goals as goal

pub returns-in-Kept : goal.returns-in-Kept
unfolding closer ◌and◌
returns-in-Kept c = grind (arith, nat_tests)

pub returns-in_default : goal.returns-in_default
unfolding closer ◌and◌
returns-in_default c = grind (arith, nat_tests)

pub returns-else-ne : goal.returns-else-ne
unfolding closer ◌and◌
returns-else-ne c = grind (arith, nat_tests)
