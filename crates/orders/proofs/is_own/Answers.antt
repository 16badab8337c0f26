-- `orders::is_own` meets its contract: participant and code are compared.
use borrow.Author.Tests.{eq-eqb, ne_eqb}
use Rattle.market.specs.Tests.{◌and◌}
use Rattle.orders.proofs.is_own.Goals as goal

pub returns-then-participant-o : goal.returns-then-participant-o
unfolding ◌and◌
returns-then-participant-o c = rw (eq-eqb _ _ c.if-participant-o.true)

pub returns-else-participant-o : goal.returns-else-participant-o
unfolding ◌and◌
returns-else-participant-o c = rw (ne_eqb _ _ c.if-participant-o.false)
