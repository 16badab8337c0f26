-- `amounts::pieces_of` meets its contract, whose definition is opaque.
use mathlib.Core.Path.{refl}
use Rattle.market.specs.Needs.{pieces_of}
use Rattle.amounts.proofs.pieces_of.Goals as goal

pub returns : goal.returns
unfolding pieces_of
returns c = refl
