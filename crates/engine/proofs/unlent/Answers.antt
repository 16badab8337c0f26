-- `engine::unlent` meets its contract: an empty list is lent, and stays so.
use borrow.Author.Rules.{rules}
use Rattle.engine.proofs.Joined.{unlent_does}
use Rattle.engine.proofs.unlent.Goals as goal

pub returns : goal.returns
returns c = unlent_does _ (search rules) c.deal.ensures
