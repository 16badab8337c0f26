-- `auction::level_at` meets its contract: both sums are those of the rungs passed.
use Rattle.std.proofs.Common.{ap}
use Rattle.market.specs.declared.Side.TheVariants.{Buy, Sell}
use Rattle.market.specs.Matching.{opposite}
use Rattle.auction.proofs.Counting.{counted_met, counted_none, counted_unmet}
use Rattle.auction.proofs.level_at.Goals.{in-Buy, in-Sell}
use Rattle.auction.proofs.level_at.Goals as goal

pub loop-rung-init : goal.loop-rung-init
loop-rung-init c = (counted_none, counted_none)

pub loop-rung-preserved : goal.loop-rung-preserved
loop-rung-preserved c =
    let k = c.loop-rung.invariant in
    let h = c.loop-rung-test.true in
    elim c.match-rung.branch [
      | in-Buy w ↦ (
        counted_met k.0 c.requires h (ap (opposite Sell) w.in-Buy.is) w.reached-wanted.ensures w.wanted-is,
        counted_unmet k.1 h (ap (opposite Buy) w.in-Buy.is) w.offered-is,
      )
      | in-Sell w ↦ (
        counted_unmet k.0 h (ap (opposite Sell) w.in-Sell.is) w.wanted-is,
        counted_met k.1 c.requires h (ap (opposite Buy) w.in-Sell.is) w.reached-offered.ensures w.offered-is,
      )
    ]
