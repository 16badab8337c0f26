-- `session::pair_securities` meets its contract: each security leaves what the definition's pairing comes to as it was.
use Rattle.session.proofs.Rounds.{Rounds}
use Rattle.session.proofs.pair_securities.Given as goal

abbrev pub invariant-loop-security : goal.invariant-loop-security
invariant-loop-security l = Rounds l.session l.rules l.fn.floor l.fn.trades l.floor l.tally l.trades l.security
