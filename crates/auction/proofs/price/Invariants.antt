-- `auction::price` meets its contract: the level kept leads those of the prices passed.
use Rattle.auction.proofs.Leading.{Led}
use Rattle.auction.proofs.price.Given as goal

abbrev pub invariant-loop-rung : goal.invariant-loop-rung
invariant-loop-rung l = Led l.waiting l.security l.rungs l.rung-index l.lead
