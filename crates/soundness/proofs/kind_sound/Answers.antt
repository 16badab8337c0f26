-- `soundness::kind_sound` meets its contract: kind by kind, the phase first.
use Rattle.std.proofs.Common.{rules}
use mathlib.Core.Path.{sym}
use Rattle.market.specs.Tests.{◌and◌}
use Rattle.soundness.proofs.kind_sound.Goals as goal

pub returns-then-kept_in : goal.returns-then-kept_in
unfolding ◌and◌
returns-then-kept_in c = rw (c.in-Kept.is, sym c.kept_in.ensures, c.if-kept_in.true) c.price_sound.ensures

pub returns-else-kept_in : goal.returns-else-kept_in
unfolding ◌and◌
returns-else-kept_in c = rw (c.in-Kept.is, sym c.kept_in.ensures, c.if-kept_in.false)

pub returns-then-eq : goal.returns-then-eq
unfolding ◌and◌
returns-then-eq c = search rules

pub returns-else-eq : goal.returns-else-eq
unfolding ◌and◌
returns-else-eq c = search rules
