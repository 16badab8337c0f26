-- `soundness::counts_sound` meets its contract: count by count.
use Rattle.market.specs.Tests.{◌and◌}
use Rattle.market.specs.Sound.{counts_sound}
use Rattle.amounts.proofs.Answers.{fails, holds}
use Rattle.soundness.proofs.counts_sound.Goals as goal

pub returns-then-not-within : goal.returns-then-not-within
unfolding counts_sound ◌and◌
returns-then-not-within c = rw (fails c.within.ensures c.if-not-within.true)

pub returns-then-not-within-2 : goal.returns-then-not-within-2
unfolding counts_sound ◌and◌
returns-then-not-within-2 c =
    rw (holds c.within.ensures c.if-not-within.false, fails c.within-2.ensures c.if-not-within-2.true)

pub returns : goal.returns
unfolding counts_sound ◌and◌
returns c =
    rw (holds c.within.ensures c.if-not-within.false, holds c.within-2.ensures c.if-not-within-2.false)
    c.within-3.ensures
