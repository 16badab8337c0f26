-- `amounts::price_sound` meets its contract: the range is tested first, then the step.
use mathlib.Core.Path.{sym}
use Rattle.market.specs.Tests.{◌and◌}
use Rattle.market.specs.Sound.{price_sound}
use Rattle.amounts.proofs.price_sound.Goals as goal

pub returns-then-within : goal.returns-then-within
unfolding price_sound ◌and◌
returns-then-within c = rw (sym c.top_price.ensures, sym c.within.ensures, c.if-within.true)

pub returns-else-within : goal.returns-else-within
unfolding price_sound ◌and◌
returns-else-within c = rw (sym c.top_price.ensures, sym c.within.ensures, c.if-within.false)
