-- `dealings::offer_no` meets its contract: questions 4 to 7, then the others.
use Rattle.std.proofs.Common.{rules, ◌∙◌}
use Rattle.orders.proofs.Asking.{positive}
use Rattle.dealings.proofs.Asking.{asks, no_early, no_later}
use Rattle.dealings.proofs.offer_no.Goals as goal

pub returns-in_err-early_no : goal.returns-in_err-early_no
returns-in_err-early_no c =
    let a = c.args in
    let no = rw c.admits-admitted.ensures at c.in_err-early_no.ensures in
    let first = no_early a.rules.now a.floor.now a.records.now a.proposal _ (positive c.in_err-early_no.field-0.0) no in
    search rules

pub later_no-requires : goal.later_no-requires
later_no-requires c =
    let a = c.args in
    asks a.rules.now a.floor.now a.records.now a.proposal (rw c.admits-admitted.ensures at c.in_ok-early_no.ensures) c.requires

pub returns : goal.returns
returns c =
    let a = c.args in
    c.later_no.ensures
    ∙ no_later a.rules.now a.floor.now a.records.now a.proposal (rw c.admits-admitted.ensures at c.in_ok-early_no.ensures)
