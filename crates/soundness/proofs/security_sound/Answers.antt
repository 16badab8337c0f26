-- `soundness::security_sound` meets its contract: the line first, then the nominal.
use Rattle.market.specs.Tests.{◌and◌}
use Rattle.amounts.proofs.Answers.{fails, holds}
use Rattle.soundness.proofs.security_sound.Goals as goal

pub returns-then-not-row_sound : goal.returns-then-not-row_sound
unfolding ◌and◌
returns-then-not-row_sound c = rw (fails c.row_sound.ensures c.if-not-row_sound.true)

pub returns : goal.returns
unfolding ◌and◌
returns c = rw (holds c.row_sound.ensures c.if-not-row_sound.false) c.nominal_sound.ensures
