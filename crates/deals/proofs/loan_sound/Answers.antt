-- `deals::loan_sound` meets its contract: the rate, then the sum.
use Rattle.std.proofs.Common.{rules}
use Rattle.market.specs.Tests.{◌and◌}
use Rattle.market.specs.Deals.{loan_sound}
use Rattle.deals.proofs.loan_sound.Goals as goal

pub returns-then-rate-le-MAX_OFFER_RATE : goal.returns-then-rate-le-MAX_OFFER_RATE
unfolding loan_sound ◌and◌
returns-then-rate-le-MAX_OFFER_RATE c = search rules

pub returns-else-rate-le-MAX_OFFER_RATE : goal.returns-else-rate-le-MAX_OFFER_RATE
unfolding loan_sound ◌and◌
returns-else-rate-le-MAX_OFFER_RATE c = search rules
