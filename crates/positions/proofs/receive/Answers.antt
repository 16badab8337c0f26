use mathlib.Core.Path.{refl}
use Rattle.market.proofs.Amounts.{change_free}
use Rattle.positions.proofs.receive.Goals as goal

pub returns : goal.returns
returns c = change_free _ _ _ _ refl refl
