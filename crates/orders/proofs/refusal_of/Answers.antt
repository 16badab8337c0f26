-- `orders::refusal_of` meets its contract: questions 4 to 14, then 15 of the claim.
use Rattle.std.proofs.Common.{rules}
use Rattle.orders.proofs.Asking.{count_within, few_lent, in_lots, lent_waiting, no_asked, only_fifteen}
use Rattle.orders.proofs.refusal_of.Goals as goal

pub order_no-requires : goal.order_no-requires
order_no-requires c = c.requires.backed.rules_ok

pub returns-in_err-order_no : goal.returns-in_err-order_no
returns-in_err-order_no c =
    let a = c.args in
    let first = no_asked a.rules.now a.floor.now a.participant a.ticket a.access a.force c.in_err-order_no.field-0.0 c.in_err-order_no.ensures in
    search rules

pub claim_of-claim-requires : goal.claim_of-claim-requires
claim_of-claim-requires c =
    let a = c.args in
    in_lots a.rules.now a.floor.now a.participant a.ticket a.access a.force c.in_ok-order_no.ensures

pub shared_ref_as_front-is_fillable : goal.shared_ref_as_front-is_fillable
shared_ref_as_front-is_fillable c = count_within c.args.rules.now c.args.floor.now c.requires

pub is_fillable-requires : goal.is_fillable-requires
is_fillable-requires c = few_lent c.args.rules.now c.args.floor.now c.requires

pub returns-then-not-is_fillable : goal.returns-then-not-is_fillable
returns-then-not-is_fillable c =
    let a = c.args in
    let asked = rw (lent_waiting a.rules.now a.floor.now c.requires) at c.is_fillable.ensures in
    let last = only_fifteen a.rules.now a.floor.now a.participant a.ticket a.access a.force c.in_ok-order_no.ensures in
    search rules

pub returns : goal.returns
returns c =
    let a = c.args in
    let asked = rw (lent_waiting a.rules.now a.floor.now c.requires) at c.is_fillable.ensures in
    let last = only_fifteen a.rules.now a.floor.now a.participant a.ticket a.access a.force c.in_ok-order_no.ensures in
    search rules
