-- `pairing::first_pair` meets its contract: both searches keep the best of the orders passed.
use lib.ListN.{length}
use Rattle.matching.proofs.Search.{Searched}
use Rattle.pairing.proofs.first_pair.Given as goal

abbrev pub invariant-loop-i : goal.invariant-loop-i
invariant-loop-i l =
    Searched l.seller l.waiting (length l.waiting) l.i l.buys × Searched l.buyer l.waiting (length l.waiting) l.i l.sells
