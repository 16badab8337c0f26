-- `session::closing_no` meets its contract: questions 4 to 7, then the others of the claim.
use Rattle.std.proofs.Common.{rules}
use Rattle.session.proofs.Asking.{in_lots, no_early, no_later, reckonable}
use Rattle.session.proofs.closing_no.Goals as goal

pub returns-in_err-early_no : goal.returns-in_err-early_no
returns-in_err-early_no c =
    let a = c.args in
    let no = rw c.admits-admitted.ensures at c.in_err-early_no.ensures in
    let first =
    no_early a.rules.now a.floor.now c.requires a.participant a.side a.security a.lots c.in_err-early_no.field-0.0 no in
    search rules

pub closing_claim-claim-requires : goal.closing_claim-claim-requires
closing_claim-claim-requires c =
    let a = c.args in
    let none = rw c.admits-admitted.ensures at c.in_ok-early_no.ensures in
    in_lots a.rules.now a.floor.now c.requires a.participant a.side a.security a.lots none

pub later_no-requires : goal.later_no-requires
later_no-requires c =
    let a = c.args in
    let none = rw c.admits-admitted.ensures at c.in_ok-early_no.ensures in
    rw c.closing_claim-claim.ensures
    (reckonable a.rules.now a.floor.now c.requires a.participant a.side a.security a.lots none)

pub returns : goal.returns
returns c =
    let a = c.args in
    let none = rw c.admits-admitted.ensures at c.in_ok-early_no.ensures in
    let later = rw c.closing_claim-claim.ensures at c.later_no.ensures in
    no_later a.rules.now a.floor.now c.requires a.participant a.side a.security a.lots none later
