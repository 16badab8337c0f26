-- `matching::fall_of` meets its contract: an order of fewer lots needs no more, so the difference is not below zero.
use Prim.Native.Nat.{◌-◌}
use native.Mathlib.Omega.{arith}
use mathlib.Core.Path.{◌∙◌, ◌≡◌, ap}
use Rattle.market.specs.Day.{with_lots}
use Rattle.market.proofs.Needs.{blocks_less}
use Rattle.matching.proofs.fall_of.Goals.{After-with_lots-rest}
use Rattle.matching.proofs.fall_of.Goals as goal

pub overflow_sub-lots_of : goal.overflow_sub-lots_of
overflow_sub-lots_of c = rw c.lots_of.ensures c.requires.part

pub with_lots-rest-requires : goal.with_lots-rest-requires
with_lots-rest-requires c = omega (arith, c.lots_of.ensures, c.requires.top)

-- what is left of the order
rest : (c : After-with_lots-rest) →
    let a = c.args in c.with_lots-rest.result ≡ with_lots a.order (a.order.lots - a.lots)
rest c = let a = c.args in c.with_lots-rest.ensures ∙ ap (λ n. with_lots a.order (n - a.lots)) c.lots_of.ensures

pub need_of-requires-2 : goal.need_of-requires-2
need_of-requires-2 c =
    let pre = c.requires in
    rw (rest c.before) (pre.listing, pre.limit, omega (arith, pre.top))

pub overflow_sub-result : goal.overflow_sub-result
overflow_sub-result c =
    let a = c.args in
    rw (c.need_of-2.ensures, c.need_of.ensures, rest c.before.before)
    (blocks_less a.order.side a.listing.row a.listing.rate _ a.order.lots a.lots c.requires.part)

pub returns : goal.returns
returns c = rw (c.need_of-2.ensures, c.need_of.ensures, rest c.before.before)
