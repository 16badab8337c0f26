-- `session::end` meets its contract: questions 2 and 6, then the pairing, and the rest leave.
use mathlib.Core.Path.{subst, sym}
use Rattle.amounts.proofs.Answers.{fails, holds}
use Rattle.invariant.specs.Standing.{Standing}
use Rattle.session.proofs.Calling.{endable, end_refused, end_unlent, ended}
use Rattle.session.proofs.end.Goals as goal

pub returns-then-trades-lt-LENT_AT_LEAST : goal.returns-then-trades-lt-LENT_AT_LEAST
returns-then-trades-lt-LENT_AT_LEAST c =
    rw c.from.ensures (end_unlent c.requires c.args.session c.args.trades.now c.if-trades-lt-LENT_AT_LEAST.true)

pub returns-then-not-admits_end : goal.returns-then-not-admits_end
returns-then-not-admits_end c =
    rw c.from-then-not-admits_end.ensures
    (end_refused c.requires c.args.session c.args.trades.now c.if-trades-lt-LENT_AT_LEAST.false
    (fails c.admits_end.ensures c.if-not-admits_end.true))

pub pair_securities-tally-requires : goal.pair_securities-tally-requires
pair_securities-tally-requires c =
    endable c.requires c.args.session c.args.trades.now c.if-trades-lt-LENT_AT_LEAST.false (holds c.admits_end.ensures c.if-not-admits_end.false)

pub free_all-requires : goal.free_all-requires
free_all-requires c =
    let paired = c.pair_securities-tally.ensures in subst Standing (sym paired.day) paired.standing

pub returns : goal.returns
returns c =
    rw c.next_phase-floor.ensures
    (ended c.requires c.args.session c.args.trades.now c.if-trades-lt-LENT_AT_LEAST.false (holds c.admits_end.ensures c.if-not-admits_end.false)
    c.pair_securities-tally.ensures c.free_all.ensures.day)
