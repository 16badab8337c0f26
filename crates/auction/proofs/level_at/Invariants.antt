-- `auction::level_at` meets its contract: both sums are those of the rungs passed.
use Rattle.market.specs.declared.Side.TheVariants.{Buy, Sell}
use Rattle.auction.proofs.Counting.{Counted}
use Rattle.auction.proofs.level_at.Given as goal

abbrev pub invariant-loop-rung : goal.invariant-loop-rung
invariant-loop-rung l = Counted Sell l.price l.rungs l.rung-index l.wanted × Counted Buy l.price l.rungs l.rung-index l.offered
