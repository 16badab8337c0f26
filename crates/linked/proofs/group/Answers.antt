-- `linked::group` meets its contract: questions 2 and 3, then the members in turn.
use Rattle.amounts.proofs.Answers.{fails, holds}
use Rattle.linked.proofs.Calling.{group_many, group_short}
use Rattle.linked.proofs.group.Goals as goal

pub returns-then-trades-lt-LENT_AT_LEAST : goal.returns-then-trades-lt-LENT_AT_LEAST
returns-then-trades-lt-LENT_AT_LEAST c =
    let a = c.args in
    rw c.from.ensures
    (group_short a.rules.now a.floor.now a.trades.now a.participant a.count a.members.now c.requires
    c.if-trades-lt-LENT_AT_LEAST.true)

pub returns-then-not-within : goal.returns-then-not-within
returns-then-not-within c =
    let a = c.args in
    rw c.from-then-not-within.ensures
    (group_many a.rules.now a.floor.now a.trades.now a.participant a.count a.members.now c.requires
    c.if-trades-lt-LENT_AT_LEAST.false (fails c.within.ensures c.if-not-within.true))

pub members_in_turn-requires : goal.members_in_turn-requires
members_in_turn-requires c = record {
  ready = c.requires;
  lent = c.if-trades-lt-LENT_AT_LEAST.false;
  few = holds c.within.ensures c.if-not-within.false;
}
