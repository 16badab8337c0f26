-- `auction::precedes` meets its contract: lots, gap and price in turn.
use Rattle.std.proofs.Common.{arith}
use Rattle.std.proofs.lemmas.Bool.Decides.{nat_tests}
use Rattle.auction.specs.Ladder.{ahead}
use Rattle.auction.proofs.precedes.Goals as goal

pub returns : goal.returns
unfolding ahead
returns c = grind (arith, nat_tests)
