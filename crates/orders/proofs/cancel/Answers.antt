-- `orders::cancel` meets its contract: the participant is known and the order is found, and it leaves.
use Rattle.invariant.proofs.Sound.{ready_standing}
use Rattle.orders.proofs.Asking.{count_within}
use Rattle.orders.proofs.Cancelling.{cancel_carries, cancel_none, cancel_unknown}
use Rattle.orders.proofs.cancel.Goals as goal

pub returns-then-rules-participant : goal.returns-then-rules-participant
returns-then-rules-participant c =
    let a = c.args in
    rw c.from.ensures
    (cancel_unknown a.rules.now a.floor.now a.participant a.code c.requires c.if-rules-participant.true)

pub find-requires : goal.find-requires
find-requires c = count_within c.args.rules.now c.args.floor.now (ready_standing c.requires)

pub returns-in_default : goal.returns-in_default
returns-in_default c =
    let a = c.args in
    rw c.from-in_default.ensures
    (cancel_none a.rules.now a.floor.now a.participant a.code c.requires c.find.ensures.place c.if-rules-participant.false
    c.in_default.is)

pub leave-requires : goal.leave-requires
leave-requires c =
    (ready_standing c.requires, rw c.in-Some.is at c.find.ensures.inside)

pub returns : goal.returns
returns c =
    let a = c.args in
    cancel_carries a.rules.now a.floor.now a.participant a.code c.requires c.find.ensures.place c.in-Some.is
    c.if-rules-participant.false c.leave.ensures
