-- `amounts::money_for` meets its contract, whose definition is opaque.
use Rattle.market.specs.Needs.{money_for}
use Rattle.amounts.proofs.money_for.Goals as goal

pub returns : goal.returns
unfolding money_for
returns c = rw c.par_of.ensures
