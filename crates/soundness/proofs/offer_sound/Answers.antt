-- `soundness::offer_sound` meets its contract: the phase first, then number by number.
use Rattle.std.proofs.Common.{rules}
use Rattle.market.specs.Tests.{◌and◌}
use Rattle.soundness.proofs.offer_sound.Goals as goal

pub returns-then-rate-le-MAX_OFFER_RATE : goal.returns-then-rate-le-MAX_OFFER_RATE
unfolding ◌and◌
returns-then-rate-le-MAX_OFFER_RATE c = search rules

pub returns-else-rate-le-MAX_OFFER_RATE : goal.returns-else-rate-le-MAX_OFFER_RATE
unfolding ◌and◌
returns-else-rate-le-MAX_OFFER_RATE c = search rules
