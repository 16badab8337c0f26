-- `amounts::within` meets its contract: both bounds are tested.
use borrow.Author.Tests.{le-leb, lt-leb}
use Rattle.market.specs.Tests.{◌and◌}
use Rattle.amounts.proofs.within.Goals as goal

pub returns-then-low-x : goal.returns-then-low-x
unfolding ◌and◌
returns-then-low-x c = rw (le-leb _ _ c.if-low-x.true)

pub returns-else-low-x : goal.returns-else-low-x
unfolding ◌and◌
returns-else-low-x c = rw (lt-leb _ _ c.if-low-x.false)
