-- `auction::lay_out` meets its contract: the rungs of the orders passed stand first on the ladder.
use Rattle.std.proofs.Common.{◌≡◌, ◌≤◌, take}
use Rattle.auction.specs.Ladder.{rungs_of}
use Rattle.auction.proofs.lay_out.Given as goal

abbrev pub invariant-loop-o : goal.invariant-loop-o
invariant-loop-o l = (l.count ≤ l.o-index) × (take l.count l.ladder ≡ rungs_of l.security (take l.o-index l.orders))
