-- `amounts::fee_of` meets its contract, whose definition is opaque.
use mathlib.Core.Path.{refl}
use Rattle.market.specs.Needs.{fee}
use Rattle.amounts.proofs.fee_of.Goals as goal

pub returns : goal.returns
unfolding fee
returns c = refl
