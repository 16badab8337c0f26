-- `pairing::pair_all` meets its contract: each turn leaves what the definition's pairing comes to as it was.
use native.Mathlib.Omega.{arith}
use mathlib.Core.Path.{ap, refl}
use Rattle.market.specs.declared.Floor.{Floor}
use Rattle.pairing.proofs.Going.{going_buy, going_ends, going_less, going_lots, going_next, going_pair}
use Rattle.pairing.proofs.Going.{going_ready, going_room, going_sell, going_taking, part}
use Rattle.pairing.proofs.Taking.{taken_both, takes_earlier, takes_later}
use Rattle.pairing.proofs.pair_all.Goals as goal

pub offset_bounds-floor-pair : goal.offset_bounds-floor-pair
offset_bounds-floor-pair c =
    let g = c.loop-pair.invariant in
    let f = going_pair g c.in-Some.ensures in
    omega (arith, going_buy g f.buy f.sell, going_room g)

pub bounds-floor-pair : goal.bounds-floor-pair
bounds-floor-pair c =
    let g = c.loop-pair.invariant in
    let f = going_pair g c.in-Some.ensures in
    omega (arith, going_buy g f.buy f.sell, going_room g)

pub offset_bounds-floor-pair-in-Some : goal.offset_bounds-floor-pair-in-Some
offset_bounds-floor-pair-in-Some c =
    let g = c.loop-pair.invariant in
    let f = going_pair g c.in-Some.ensures in
    omega (arith, going_sell g f.buy f.sell, going_room g)

pub bounds-floor-pair-in-Some : goal.bounds-floor-pair-in-Some
bounds-floor-pair-in-Some c =
    let g = c.loop-pair.invariant in
    let f = going_pair g c.in-Some.ensures in
    omega (arith, going_sell g f.buy f.sell, going_room g)

pub execute-requires : goal.execute-requires
execute-requires c =
    let g = c.loop-pair.invariant in
    let f = going_pair g c.in-Some.ensures in
    let read = rw (c.lots_of.ensures, c.lots_of-in-Some.ensures) at c.min-lots.ensures in
    going_ready g f.buy f.sell read

pub take_off-floor-requires : goal.take_off-floor-requires
take_off-floor-requires c =
    let g = c.loop-pair.invariant in
    let f = going_pair g c.in-Some.ensures in
    rw c.execute.ensures.floor
    (takes_later (going_taking g f.buy f.sell c.max-later.ensures c.min-earlier.ensures))

pub take_off-floor-requires-in-Some : goal.take_off-floor-requires-in-Some
take_off-floor-requires-in-Some c =
    let g = c.loop-pair.invariant in
    let f = going_pair g c.in-Some.ensures in
    let t = going_taking g f.buy f.sell c.max-later.ensures c.min-earlier.ensures in
    takes_earlier t (rw c.execute.ensures.floor at c.take_off-floor.ensures)

pub overflow_add-tally : goal.overflow_add-tally
overflow_add-tally c =
    let g = c.loop-pair.invariant in
    let f = going_pair g c.in-Some.ensures in
    let read = rw (c.lots_of.ensures, c.lots_of-in-Some.ensures) at c.min-lots.ensures in
    omega (arith, part g f.buy f.sell read, going_lots g f.buy f.sell, g.here.counts.most)

pub loop-pair-smaller : goal.loop-pair-smaller
loop-pair-smaller c =
    let g = c.loop-pair.invariant in
    let f = going_pair g c.in-Some.ensures in
    let read = rw (c.lots_of.ensures, c.lots_of-in-Some.ensures) at c.min-lots.ensures in
    let t = going_taking g f.buy f.sell c.max-later.ensures c.min-earlier.ensures in
    going_less g f.buy f.sell read _ _
    (taken_both t (rw c.execute.ensures.floor at c.take_off-floor.ensures) c.take_off-floor-in-Some.ensures)

pub loop-pair-preserved : goal.loop-pair-preserved
loop-pair-preserved c =
    let g = c.loop-pair.invariant in
    let f = going_pair g c.in-Some.ensures in
    let read = rw (c.lots_of.ensures, c.lots_of-in-Some.ensures) at c.min-lots.ensures in
    let t = going_taking g f.buy f.sell c.max-later.ensures c.min-earlier.ensures in
    let done = c.execute.ensures in
    going_next g f.buy f.sell read done _
    (taken_both t (rw done.floor at c.take_off-floor.ensures) c.take_off-floor-in-Some.ensures)
    (ap (λ (z : Floor). z.codes) done.floor) (ap (λ (z : Floor). z.phase) done.floor)
    (ap (λ (z : Floor). z.turnover) done.floor) refl refl

pub returns : goal.returns
returns c =
    let g = c.loop-pair.invariant in
    record {
      paired = going_ends g c.in_default.ensures;
      counts = g.here.counts;
      long = g.long;
    }
