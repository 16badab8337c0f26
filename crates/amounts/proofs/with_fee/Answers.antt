-- `amounts::with_fee` meets its contract: a sum and a fee no larger than it fit.
use native.Mathlib.Omega.{arith}
use Rattle.market.specs.Needs.{with_fee}
use Rattle.market.proofs.Needs.{fee_within}
use Rattle.amounts.proofs.with_fee.Goals as goal

pub overflow_add-result : goal.overflow_add-result
overflow_add-result c =
    let a = c.args in
    omega (arith, c.fee_of.ensures, c.requires.1, fee_within a.rate a.sum c.requires.0)

pub returns : goal.returns
unfolding with_fee
returns c = rw c.fee_of.ensures
