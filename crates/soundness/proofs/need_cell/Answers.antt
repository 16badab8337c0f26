-- `soundness::need_place` meets its contract, side by side.
use native.Mathlib.Omega.{arith}
use mathlib.Core.Path.{◌∙◌}
use Rattle.soundness.proofs.need_cell.Goals as goal

pub returns-in-Buy : goal.returns-in-Buy
returns-in-Buy c = c.cell_of.ensures ∙ rw c.in-Buy.is (omega arith)

pub returns-in-Sell : goal.returns-in-Sell
returns-in-Sell c = rw (c.cell_of-in-Sell.ensures, c.in-Sell.is)
