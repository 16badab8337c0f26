-- `soundness::row_sound` meets its contract: field by field.
use borrow.Author.Tests.{le-ltb, lt-ltb}
use Rattle.market.specs.Tests.{◌and◌}
use Rattle.market.specs.Sound.{row_sound}
use Rattle.amounts.proofs.Answers.{fails, holds}
use Rattle.soundness.proofs.row_sound.Goals as goal

pub returns-then-currencies-row : goal.returns-then-currencies-row
unfolding row_sound ◌and◌
returns-then-currencies-row c = rw (le-ltb _ _ c.if-currencies-row.true)

pub returns-then-not-within : goal.returns-then-not-within
unfolding row_sound ◌and◌
returns-then-not-within c =
    rw (lt-ltb _ _ c.if-currencies-row.false, fails c.within.ensures c.if-not-within.true)

pub returns : goal.returns
unfolding row_sound ◌and◌
returns c =
    rw (lt-ltb _ _ c.if-currencies-row.false, holds c.within.ensures c.if-not-within.false) c.within-2.ensures
