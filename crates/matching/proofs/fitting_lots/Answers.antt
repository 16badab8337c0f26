-- `matching::fitting_lots` meets its contract: the sum is that of the orders passed, at most 10,000 lots each.
use Prim.Native.Nat.{◌≤◌}
use native.Mathlib.Omega.{arith}
use mathlib.Core.Path.{◌∙◌, ◌≡◌, ap, refl}
use lib.ListN.{length}
use Rattle.market.specs.Limits.{max_lots}
use Rattle.market.specs.View.{first_orders}
use Rattle.market.specs.Matching.{fitting}
use Rattle.matching.proofs.First.{first_all, fitting_few, fitting_next}
use Rattle.matching.proofs.fitting_lots.Goals.{After-lots_fitting-sum}
use Rattle.matching.proofs.fitting_lots.Goals as goal

pub loop-o-init : goal.loop-o-init
unfolding fitting
loop-o-init c = (omega arith, refl)

few : (c : After-lots_fitting-sum) → c.lots_fitting-sum.result ≤ max_lots
few c =
    let a = c.args in
    omega (arith, c.lots_fitting-sum.ensures, fitting_few a.e a.waiting.now c.loop-o.o-index (omega arith) c.requires.lots)

pub overflow_add-sum : goal.overflow_add-sum
overflow_add-sum c = omega (arith, few c, c.requires.room)

pub loop-o-preserved : goal.loop-o-preserved
loop-o-preserved c =
    let a = c.args in
    let l = c.loop-o in (
      omega (arith, few c),
      omega (arith, fitting_next a.e l.o-index a.waiting.now, l.invariant.1, c.lots_fitting-sum.ensures),
    )

pub returns : goal.returns
returns c =
    let a = c.args in
    let l = c.loop-o in
    let e : l.o-index ≡ length a.waiting.now = omega arith in
    l.invariant.1 ∙ ap (λ k. fitting a.e (first_orders k a.waiting.now)) e ∙ ap (fitting a.e) (first_all a.waiting.now)
