-- `dayfile::ended` meets its contract: the day of a refused opening's ledger is one of zeros.
use mathlib.Core.Path.{refl, ap}
use Rattle.market.specs.Ledger.{Ledger}
use Rattle.market.specs.ActStep.{opened_ledger}
use Rattle.dayfile.proofs.ended.Goals as goal

pub returns : goal.returns
unfolding opened_ledger
returns c = (refl, refl, ap (λ (l : Ledger). l.day) c.refused_opening.ensures.state)
