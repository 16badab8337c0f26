-- `pairing::pair_all` meets its contract: each turn leaves what the definition's pairing comes to as it was.
use Rattle.pairing.proofs.Going.{Going}
use Rattle.pairing.proofs.pair_all.Given as goal

abbrev pub invariant-loop-pair : goal.invariant-loop-pair
invariant-loop-pair l =
    Going (record {
      r = l.rules;
      s = l.security;
      t = record { limit = l.limit; price = l.price };
      f = l.fn.floor;
      c = l.fn.tally;
      v = l.fn.trades;
    }) l.floor l.tally l.trades

abbrev pub decreases-loop-pair : goal.decreases-loop-pair
decreases-loop-pair l = l.floor.count
