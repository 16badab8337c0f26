-- `waiting::block_need` meets its contract, where an order of either side blocks.
use Rattle.market.specs.declared.Side.TheVariants.{Buy, Sell}
use Rattle.market.specs.View.{day_of}
use Rattle.waiting.proofs.Claims.{blocks_at}
use Rattle.waiting.proofs.block_need.Goals as goal

pub block-requires : goal.block-requires
block-requires c =
    blocks_at (day_of c.args.rules.now c.args.floor.now) c.args.o Buy c.in-Buy.is c.need_on-need.ensures c.cell_for-at.ensures c.requires

pub returns-in-Buy : goal.returns-in-Buy
returns-in-Buy c = rw (c.block.ensures, c.cell_for-at.ensures, c.need_on-need.ensures, c.in-Buy.is)

pub block-requires-in-Sell : goal.block-requires-in-Sell
block-requires-in-Sell c =
    blocks_at (day_of c.args.rules.now c.args.floor.now) c.args.o Sell c.in-Sell.is c.need_on-need.ensures c.cell_for-at.ensures c.requires

pub returns-in-Sell : goal.returns-in-Sell
returns-in-Sell c = rw (c.block-in-Sell.ensures, c.cell_for-at.ensures, c.need_on-need.ensures, c.in-Sell.is)
