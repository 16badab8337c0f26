-- `auction::price` meets its contract: the level kept leads those of the rungs passed.
use Rattle.auction.proofs.Ladder.{rungs_few}
use Rattle.auction.proofs.Leading.{led_next, led_none, led_starts, led_trades}
use Rattle.auction.proofs.price.Goals as goal

pub level_at-lead-requires : goal.level_at-lead-requires
level_at-lead-requires c = rungs_few c.args.security c.args.waiting.now c.requires c.lay_out-rungs.ensures

pub loop-rung-init : goal.loop-rung-init
loop-rung-init c = led_starts _ _ c.before.lay_out-rungs.ensures c.level_at-lead.ensures

pub level_at-requires : goal.level_at-requires
level_at-requires c = rungs_few c.args.security c.args.waiting.now c.requires c.loop-rung.invariant.laid

pub loop-rung-preserved : goal.loop-rung-preserved
loop-rung-preserved c =
    led_next _ _ c.loop-rung.invariant c.loop-rung-test.true c.level_at.ensures c.first_of-lead.ensures

pub returns-then-lead-gt0 : goal.returns-then-lead-gt0
returns-then-lead-gt0 c = led_trades _ _ c.loop-rung.invariant c.loop-rung-test.false c.if-lead-gt0.true

pub returns-else-lead-gt0 : goal.returns-else-lead-gt0
returns-else-lead-gt0 c = led_none _ _ c.loop-rung.invariant c.loop-rung-test.false c.if-lead-gt0.false
