-- `orders::later_no` meets its contract: question 14 is asked of the claim.
use Rattle.std.proofs.Common.{◌≡◌, rules, true}
use Rattle.market.specs.Day.{row}
use Rattle.market.specs.Sound.{price_sound}
use Rattle.orders.proofs.Asking.{reckonable}
use Rattle.orders.proofs.later_no.Goals as goal

pub covers-requires : goal.covers-requires
covers-requires c =
    let a = c.args in
    let good : price_sound (row a.rules.now a.ticket.security) a.ticket.price ≡ true = search rules in
    rw c.claim_of-claim.ensures (reckonable a.rules.now a.floor.now a.participant a.ticket c.requires good)
