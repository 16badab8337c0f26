-- `matching::preferred` meets its contract: the order found stays unless the other fits and is better.
use Rattle.std.proofs.Common.{arith}
use Rattle.std.proofs.lemmas.Bool.Decides.{nat_tests}
use Rattle.market.specs.Tests.{◌and◌}
use Rattle.matching.specs.Search.{prefer_later}
use Rattle.matching.proofs.preferred.Goals as goal

pub returns-then-is_none_or : goal.returns-then-is_none_or
unfolding prefer_later ◌and◌
returns-then-is_none_or c = grind (arith, nat_tests)

pub returns-else-fits : goal.returns-else-fits
unfolding prefer_later ◌and◌
returns-else-fits c = grind (arith, nat_tests)
