-- `opening::opened` meets its contract: its state and the ledger of that are those of the definition.
use mathlib.Core.Path.{refl}
use Rattle.market.specs.Opening.{opened}
use Rattle.market.specs.ActStep.{opened_ledger}
use Rattle.opening.proofs.opened.Goals as goal

pub returns : goal.returns
unfolding opened opened_ledger
returns c = rw (c.empty_floor.ensures, c.no_deals.ensures) record { result_value = refl; value = refl }
