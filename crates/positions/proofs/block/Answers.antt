use mathlib.Core.Path.{refl}
use Rattle.market.specs.Positions.{change}
use Rattle.positions.proofs.block.Goals as goal

pub returns : goal.returns
returns c = unfold change in refl
