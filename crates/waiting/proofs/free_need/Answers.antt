-- `waiting::free_need` meets its contract, where an order of either side blocks.
use Rattle.market.specs.declared.Side.TheVariants.{Buy, Sell}
use Rattle.market.specs.View.{day_of}
use Rattle.waiting.proofs.Claims.{frees_at}
use Rattle.waiting.proofs.free_need.Goals as goal

pub release-requires : goal.release-requires
release-requires c =
    frees_at (day_of c.args.rules.now c.args.floor.now) c.args.o Buy c.in-Buy.is c.need_on-need.ensures c.cell_for-at.ensures c.requires

pub returns-in-Buy : goal.returns-in-Buy
returns-in-Buy c = rw (c.release.ensures, c.cell_for-at.ensures, c.need_on-need.ensures, c.in-Buy.is)

pub release-requires-in-Sell : goal.release-requires-in-Sell
release-requires-in-Sell c =
    frees_at (day_of c.args.rules.now c.args.floor.now) c.args.o Sell c.in-Sell.is c.need_on-need.ensures c.cell_for-at.ensures c.requires

pub returns-in-Sell : goal.returns-in-Sell
returns-in-Sell c = rw (c.release-in-Sell.ensures, c.cell_for-at.ensures, c.need_on-need.ensures, c.in-Sell.is)
