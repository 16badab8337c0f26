-- `waiting::covers` meets its contract, where an order of either side blocks.
use Rattle.market.specs.Questions.{covered}
use Rattle.waiting.proofs.Claims.{cell_inside}
use Rattle.waiting.proofs.covers.Goals as goal

pub free_of-requires : goal.free_of-requires
free_of-requires c = rw c.cell_for-at.ensures (cell_inside _ c.args.o c.requires)

pub free_of-requires-in-Sell : goal.free_of-requires-in-Sell
free_of-requires-in-Sell c = rw c.cell_for-at.ensures (cell_inside _ c.args.o c.requires)

pub returns-in-Buy : goal.returns-in-Buy
unfolding covered
returns-in-Buy c = rw (c.free_of.ensures, c.cell_for-at.ensures, c.need_on-need.ensures, c.in-Buy.is)

pub returns-in-Sell : goal.returns-in-Sell
unfolding covered
returns-in-Sell c = rw (c.free_of-in-Sell.ensures, c.cell_for-at.ensures, c.need_on-need.ensures, c.in-Sell.is)
