-- `engine::plain` meets its contract: an empty list is lent, and stays so.
use borrow.Author.Rules.{rules}
use Rattle.engine.proofs.Joined.{unlent_does}
use Rattle.engine.proofs.plain.Goals as goal

pub returns : goal.returns
returns c = rw c.no_tickets.ensures at (unlent_does _ (search rules) c.call.ensures)
