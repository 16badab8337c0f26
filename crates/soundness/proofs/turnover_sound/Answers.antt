-- `soundness::turnover_sound` meets its contract: bound by bound; 10^6 times Q fits where Q is within its bound.
use borrow.Author.Tests.{le-leb, lt-leb}
use Rattle.market.specs.Tests.{◌and◌}
use Rattle.market.specs.Sound.{turnover_sound}
use Rattle.soundness.proofs.turnover_sound.Goals as goal

pub returns-then-codes-turnover : goal.returns-then-codes-turnover
unfolding turnover_sound ◌and◌
returns-then-codes-turnover c = rw (lt-leb _ _ c.if-codes-turnover.true)

pub returns-then-turnover : goal.returns-then-turnover
unfolding turnover_sound ◌and◌
returns-then-turnover c =
    rw (le-leb _ _ c.if-codes-turnover.false, lt-leb _ _ c.if-turnover.true)

pub returns : goal.returns
unfolding turnover_sound ◌and◌
returns c =
    rw (le-leb _ _ c.if-codes-turnover.false, le-leb _ _ c.if-turnover.false)
