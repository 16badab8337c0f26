-- `amounts::closing_price` meets its contract: T by Q, to the nearest.
use Rattle.market.specs.Needs.{closing_price}
use Rattle.amounts.proofs.closing_price.Goals as goal

pub returns : goal.returns
unfolding closing_price
returns c = c.nearest.ensures
