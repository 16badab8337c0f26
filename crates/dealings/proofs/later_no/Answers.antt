-- `dealings::later_no` meets its contract: question 14 is asked of the claim.
use Rattle.std.proofs.Common.{◌≡◌, true, rules}
use Rattle.market.specs.Day.{row}
use Rattle.market.specs.Sound.{price_sound}
use Rattle.market.specs.Deals.{loan_sound, term_sound}
use Rattle.market.proofs.Known.{price_bounds}
use Rattle.dealings.proofs.Asking.{narrow, reckonable}
use Rattle.dealings.proofs.later_no.Goals as goal

pub loan_sound-requires : goal.loan_sound-requires
loan_sound-requires c =
    let a = c.args in
    let good : price_sound (row a.rules.now a.proposal.ticket.security) a.proposal.ticket.price ≡ true = search rules in
    let ok = c.requires.rules in
    rw c.listing.ensures (
      ok.lot _ c.requires.security,
      ok.nominal _ c.requires.security,
      (price_bounds _ _ good).1,
      c.requires.top,
    )

pub offer_claim-claim-requires : goal.offer_claim-claim-requires
offer_claim-claim-requires c =
    let a = c.args in
    let short : term_sound a.records.now.date a.proposal.term ≡ true = search rules in
    let loan : loan_sound (row a.rules.now a.proposal.ticket.security) a.proposal.ticket.price a.proposal.ticket.lots a.proposal.rate ≡ true =
    search rules in
    narrow (row a.rules.now a.proposal.ticket.security) a.records.now.date a.proposal c.requires.top short loan

pub covers-requires : goal.covers-requires
covers-requires c =
    let a = c.args in
    let good : price_sound (row a.rules.now a.proposal.ticket.security) a.proposal.ticket.price ≡ true = search rules in
    rw c.offer_claim-claim.ensures (reckonable a.rules.now a.floor.now a.records.now a.proposal c.requires good)
