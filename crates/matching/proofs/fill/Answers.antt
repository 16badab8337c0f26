-- `matching::fill` meets its contract: the search keeps the best of the orders passed, and each turn leaves what the
-- definition's fill comes to as it was.
use Prim.Native.Nat.{◌≤◌, ◌<◌, min}
use native.Mathlib.Omega.{arith}
use Rattle.std.proofs.Common.{◌≡◌, length, rules, set}
use Rattle.market.specs.declared.Floor.{Floor}
use Rattle.market.specs.Limits.{max_waiting}
use mathlib.Core.Path.{◌∙◌, ap, refl, sym}
use Rattle.market.specs.Day.{order_at, with_lots}
use Rattle.market.specs.Matching.{price_of}
use Rattle.market.specs.View.{day_of, first_orders}
use Rattle.market.specs.Waiting.{take_off}
use Rattle.market.proofs.Fill.{fill_full, fill_none}
use Rattle.market.proofs.View.{first_length}
use Rattle.matching.specs.Search.{rank, top}
use Rattle.matching.proofs.First.{first_at}
use Rattle.matching.proofs.Going.{best_lots, found_by, going_ends, going_index, going_lent, going_made, going_next}
use Rattle.matching.proofs.Going.{going_order, going_ready, going_room, going_starts, going_top}
use Rattle.matching.proofs.Search.{rank_below, seek_none, seek_starts, seek_stays, seek_takes}
use Rattle.matching.proofs.fill.Goals.{then-closer, else-closer}
use Rattle.matching.proofs.fill.Goals as goal

pub overflow_add-reach : goal.overflow_add-reach
overflow_add-reach c =
    let e = c.args.e in
    let own = c.rank-reach.ensures ∙ ap (rank e.side) c.price_of.ensures in
    omega (arith, own, rank_below c.args.rules.now e c.requires.flight.entry_priced)

pub fill-init : goal.fill-init
fill-init c = going_starts _ c.requires.flight c.lots_of-left.ensures

pub search-init : goal.search-init
search-init c =
    let e = c.args.e in
    let own = c.rank-reach.ensures ∙ ap (rank e.side) c.price_of.ensures in
    let b = c.fill.floor in
    seek_starts c.args.rules.now e b.orders _ b.count c.requires.flight.entry_priced (omega (arith, own))

pub offset_bounds-floor-i : goal.offset_bounds-floor-i
offset_bounds-floor-i c =
    omega (arith, c.if-count-i.false, going_room (c.fill.invariant))

pub bounds-floor-i : goal.bounds-floor-i
bounds-floor-i c =
    omega (arith, c.if-count-i.false, going_room (c.fill.invariant))

pub overflow_add-i : goal.overflow_add-i
overflow_add-i c =
    omega (arith, c.if-count-i.false, going_room (c.fill.invariant))

pub search-preserved : goal.search-preserved
search-preserved c =
    let l = c.search in
    let p = c.price_of-in-search in
    let more = c.if-count-i.false in
    let ranked = c.rank-height.ensures ∙ ap (rank c.args.e.side) p.ensures in
    let low : price_of (order_at c.fill.floor.orders l.i) ≤ top = omega (arith, p.type_inv, p.ensures) in
    let answer = sym c.closer.ensures in
    elim c.if-closer.branch [
      | then-closer t ↦ rw (t.best-is, t.bound-is) (seek_takes l.invariant more low ranked (answer ∙ t.if-closer.true))
      | else-closer t ↦ rw (t.best-is, t.bound-is) (seek_stays l.invariant more low ranked (answer ∙ t.if-closer.false))
    ]

-- a turn of the fill under the rules that the caller vouches for, with the order that the search has found
pub offset_bounds-floor-at : goal.offset_bounds-floor-at
offset_bounds-floor-at c =
    let g = c.fill.invariant in
    let h = found_by c.search.invariant c.if-count-i.true c.in-Some.is in
    omega (arith, going_index g _ c.fill-test.true h, going_room g)

pub bounds-floor-at : goal.bounds-floor-at
bounds-floor-at c =
    let g = c.fill.invariant in
    let h = found_by c.search.invariant c.if-count-i.true c.in-Some.is in
    omega (arith, going_index g _ c.fill-test.true h, going_room g)

pub with_lots-entry-requires : goal.with_lots-entry-requires
with_lots-entry-requires c = going_top (c.fill.invariant)

pub trade_with-counted-requires : goal.trade_with-counted-requires
trade_with-counted-requires c =
    let f = c.fill in
    let g = f.invariant in
    let h = found_by c.search.invariant c.if-count-i.true c.in-Some.is in
    let some = c.fill-test.true in
    let other = sym (first_at f.floor.count f.floor.orders _ (going_index g _ some h)) in
    let part = c.min-lots.ensures ∙ ap (min f.left) (c.lots_of.ensures ∙ ap (λ o. o.lots) other) in
    going_ready g _ some h c.with_lots-entry.ensures other part (going_lent g _ some h c.requires.lent)

pub take_off-floor-requires : goal.take_off-floor-requires
take_off-floor-requires c =
    let f = c.fill.floor in
    let g = c.fill.invariant in
    let h = found_by c.search.invariant c.if-count-i.true c.in-Some.is in
    let inside = going_index g _ c.fill-test.true h in
    let long : length c.trade_with-counted.new.floor.orders ≡ max_waiting = search rules in
    rw c.trade_with-counted.ensures.floor
    (record {
      inside = inside;
      room = omega (arith, going_room g, ap (λ (z : Floor). length z.orders) c.trade_with-counted.ensures.floor, long);
      top = rw (sym (first_at f.count f.orders _ inside)) (going_order g _ c.fill-test.true h).top;
    })

pub overflow_add-made : goal.overflow_add-made
overflow_add-made c =
    let p = c.requires in
    let b = c.args.floor.now in
    let h = found_by c.search.invariant c.if-count-i.true c.in-Some.is in
    omega (
      arith,
      going_made (c.fill.invariant) _ c.fill-test.true h,
      p.flight.room,
      first_length b.count b.orders,
    )

pub fill-smaller : goal.fill-smaller
fill-smaller c =
    let f = c.fill in
    let g = f.invariant in
    let h = found_by c.search.invariant c.if-count-i.true c.in-Some.is in
    let some = c.fill-test.true in
    let other = first_at f.floor.count f.floor.orders _ (going_index g _ some h) in
    let lots : 0 < c.lots_of.result = rw (c.lots_of.ensures, sym other) (going_order g _ some h).lots in
    omega (arith, c.min-lots.ensures)

pub fill-preserved : goal.fill-preserved
fill-preserved c =
    let f = c.fill in
    let g = f.invariant in
    let h = found_by c.search.invariant c.if-count-i.true c.in-Some.is in
    let some = c.fill-test.true in
    let other = sym (first_at f.floor.count f.floor.orders _ (going_index g _ some h)) in
    let part = c.min-lots.ensures ∙ ap (min f.left) (c.lots_of.ensures ∙ ap (λ o. o.lots) other) in
    let done = c.trade_with-counted.ensures in
    let stay = ap (λ (z : Floor). z.orders) done.floor in
    going_next g _ some h c.with_lots-entry.ensures other part _ done
    (c.take_off-floor.ensures.waiting ∙ ap (λ w. take_off (first_orders f.floor.count w) c.in-Some.found c.min-lots.result) stay)
    (ap (λ (z : Floor). z.codes) done.floor) (ap (λ (z : Floor). z.phase) done.floor)
    (ap (λ (z : Floor). set z.turnover c.args.e.security c.trade_with-counted.result) done.floor) refl refl
    (going_lent g _ some h c.requires.lent)

-- where matching ends
pub returns-after-fill : goal.returns-after-fill
returns-after-fill c =
    let f = c.fill in
    let e = c.args.e in
    going_ends f.invariant (fill_full _ (with_lots e f.left) (omega (arith, c.fill-test.false))) _ refl refl

pub returns-in_default : goal.returns-in_default
returns-in_default c =
    let f = c.fill in
    let e = c.args.e in
    let d = day_of c.args.rules.now f.floor in
    going_ends f.invariant
    (fill_none d (with_lots e f.left)
    (best_lots e f.left d.waiting ∙ seek_none c.search.invariant c.if-count-i.true c.in_default.is)) _ refl refl
