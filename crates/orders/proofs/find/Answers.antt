-- `orders::find` meets its contract.
use Rattle.std.proofs.Common.{◌≡◌, ◌<◌, arith, sym, ◌∙◌, length-take}
use Rattle.std.proofs.lemmas.List.{get_or-take}
use Rattle.market.specs.Waiting.{index_of}
use Rattle.orders.specs.Finding.{is_own}
use Rattle.orders.proofs.Index.{found_here, not_here}
use Rattle.orders.proofs.find.Goals as goal

pub returns-then-is_own : goal.returns-then-is_own
unfolding index_of
returns-then-is_own c =
    let a = c.args in
    let f = a.floor.now in
    let h : c.loop-i.i < f.count = omega (arith, length-take f.count f.orders) in
    let place =
    sym (found_here (is_own a.participant a.code) f.count f.orders c.loop-i.i h c.loop-i.invariant
    (rw get_or-take at (sym c.is_own.ensures ∙ c.if-is_own.true))) in
    record { place = place; inside = h }

pub loop-i-preserved : goal.loop-i-preserved
loop-i-preserved c =
    let a = c.args in
    let f = a.floor.now in
    let h : c.loop-i.i < f.count = omega (arith, length-take f.count f.orders) in
    not_here (is_own a.participant a.code) c.loop-i.i f.orders c.loop-i.invariant
    (rw get_or-take at (sym c.is_own.ensures ∙ c.if-is_own.false))

pub returns-clause-place : goal.returns-clause-place
unfolding index_of
returns-clause-place c =
    let f = c.args.floor.now in
    let e : c.loop-i.i ≡ f.count = omega (arith, length-take f.count f.orders) in
    sym (rw e at c.loop-i.invariant)
