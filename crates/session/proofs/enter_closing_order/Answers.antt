-- `session::enter_closing_order` meets its contract: its questions, then the order waits.
use Rattle.invariant.proofs.Sound.{ready_standing}
use Rattle.session.proofs.Asking.{askable, lots_kept, numberable, placeable, refuse, waits}
use Rattle.session.proofs.enter_closing_order.Goals as goal

pub closing_no-asked-requires : goal.closing_no-asked-requires
closing_no-asked-requires c = askable c.args.rules.now c.args.floor.now (ready_standing c.requires)

pub returns-in-Err : goal.returns-in-Err
returns-in-Err c =
    let a = c.args in
    rw c.from.ensures
    (refuse a.rules.now a.floor.now c.requires a.participant a.side a.security a.lots c.in-Err.refusal c.in-Err.ensures)

pub closing_claim-claim-requires : goal.closing_claim-claim-requires
closing_claim-claim-requires c =
    let a = c.args in
    lots_kept a.rules.now a.floor.now c.requires a.participant a.side a.security a.lots c.in_default.ensures

pub numbered-o-requires : goal.numbered-o-requires
numbered-o-requires c =
    let a = c.args in
    rw c.closing_claim-claim.ensures
    (numberable a.rules.now a.floor.now c.requires a.participant a.side a.security a.lots c.in_default.ensures)

pub append-requires : goal.append-requires
append-requires c =
    let a = c.args in
    let entry = rw c.closing_claim-claim.ensures at c.numbered-o.ensures in (
      ready_standing c.requires,
      placeable a.rules.now a.floor.now c.requires a.participant a.side a.security a.lots c.in_default.ensures entry,
    )

pub returns : goal.returns
returns c =
    let a = c.args in
    let entry = rw c.closing_claim-claim.ensures at c.numbered-o.ensures in
    waits a.rules.now a.floor.now c.requires a.participant a.side a.security a.lots c.in_default.ensures entry
    c.append.ensures.answer c.append.ensures.day
