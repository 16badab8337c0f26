-- `dealings::part_no` meets its contract: the due day, then what each side has free.
use native.Mathlib.Omega.{arith}
use Rattle.std.proofs.lemmas.Grind.{common_steps}
use Rattle.market.specs.Tests.{◌and◌}
use Rattle.dealings.proofs.part_no.Goals as goal

pub returns-then-free_of-part : goal.returns-then-free_of-part
unfolding ◌and◌
returns-then-free_of-part c = grind (arith, common_steps)

pub returns-then-free_of-part-2 : goal.returns-then-free_of-part-2
unfolding ◌and◌
returns-then-free_of-part-2 c = grind (arith, common_steps)

pub returns : goal.returns
unfolding ◌and◌
returns c = grind (arith, common_steps)
