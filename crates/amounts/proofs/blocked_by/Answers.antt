-- `amounts::blocked_by` meets its contract, side by side.
use mathlib.Core.Path.{◌∙◌}
use native.Mathlib.Omega.{arith}
use Rattle.market.specs.Needs.{blocks}
use Rattle.market.proofs.Needs.{sum_small}
use Rattle.amounts.proofs.blocked_by.Goals as goal

pub with_fee-requires : goal.with_fee-requires
with_fee-requires c =
    let start = c.before in
    let a = start.args in
    let ok = start.requires.0 in (
      omega (arith, ok.rate),
      omega (
        arith,
        c.sum_for.ensures,
        sum_small a.listing.row a.price a.lots ok.lot ok.nominal start.requires.1 start.requires.2,
      ),
    )

pub returns-in-Buy : goal.returns-in-Buy
unfolding blocks
returns-in-Buy c = c.with_fee.ensures ∙ rw (c.sum_for.ensures, c.in-Buy.is)

pub returns-in-Sell : goal.returns-in-Sell
unfolding blocks
returns-in-Sell c = c.pieces_of.ensures ∙ rw c.in-Sell.is
