-- `soundness::order_sound` meets its contract: field by field.
use mathlib.Core.Path.{sym}
use borrow.Author.Tests.{le-ltb, lt-ltb}
use Rattle.market.specs.Tests.{◌and◌}
use Rattle.amounts.proofs.Answers.{fails, holds}
use Rattle.soundness.proofs.order_sound.Goals as goal

pub returns-then-participants-order : goal.returns-then-participants-order
unfolding ◌and◌
returns-then-participants-order c = rw (le-ltb _ _ c.if-participants-order.true)

pub returns-then-not-within : goal.returns-then-not-within
unfolding ◌and◌
returns-then-not-within c =
    rw (lt-ltb _ _ c.if-participants-order.false, sym c.lots_of.ensures, fails c.within.ensures c.if-not-within.true)

pub returns : goal.returns
unfolding ◌and◌
returns c =
    rw (lt-ltb _ _ c.if-participants-order.false, sym c.lots_of.ensures, holds c.within.ensures c.if-not-within.false)
    c.kind_sound.ensures
