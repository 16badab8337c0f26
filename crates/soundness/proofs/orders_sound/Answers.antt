-- `soundness::orders_sound` meets its contract: the orders before place `i` are sound, their arrivals rise up to `last` and
-- each participant's codes up to his of `lasts`, and what they need is added.
use native.Mathlib.Omega.{arith}
use Prim.Native.Nat.{ℕ, ◌≤◌, ◌<◌, ◌+◌}
use mathlib.Core.List.{List}
use lib.ListN.{length}
use Rattle.std.proofs.lemmas.List.{length-take-le}
use mathlib.Core.Path.{◌≡◌, ap, refl, sym, ◌∙◌}
use mathlib.Core.Bool.{Bool, true}
use borrow.Author.Tests.{le-leb, lt-leb}
use Rattle.market.specs.declared.Order.{Order}
use Rattle.market.specs.Limits.{max_waiting, cells}
use Rattle.market.specs.Day.{Day, currency_of, order_at, row, turnover_at}
use Rattle.market.specs.Codes.{given}
use Rattle.market.specs.Sound.{kind_sound, lots_sound, order_sound}
use Rattle.market.specs.Tests.{◌and◌, known}
use Rattle.market.specs.View.{day_of, first_orders}
use Rattle.market.proofs.View.{first_length}
use Rattle.amounts.proofs.Answers.{fails, holds}
use Rattle.soundness.specs.Parts.{need_cell_for, orderly}
use Rattle.market.proofs.Codes.{codes_within}
use Rattle.soundness.proofs.Below.{pairs_first}
use Rattle.soundness.proofs.Loops as loops
use Rattle.soundness.proofs.Parts.{Reckonable, arrival_fails, known_security, order_fails}
use Rattle.soundness.proofs.Parts.{order_known, orderly_holds, orders_hold, own_fails, reckonable, unknown_security}
use Rattle.soundness.proofs.Needs.{added_all, added_next, added_none, need_top, cell_inside}
use Rattle.soundness.proofs.orders_sound.Goals as goal

-- few orders wait
few : (d : Day) (count : ℕ) (orders : List Order) → first_orders count orders ≡ d.waiting → orderly d ≡ true → count ≤ max_waiting
few d count orders e y =
    let size = first_length count orders in
    let h = (orderly_holds d y).count in
    omega (arith, ap length e)

-- what stands behind the tests of one order of an orderly day
module _ (d : Day) (o : Order) (y : orderly d ≡ true) (h : o.security < d.rules.securities) where
  -- the order's security is one of the table
  listed : o.security < 16
  listed = omega (arith, (orderly_holds d y).rules.securities)

  module _ {answer : Bool}
      (e : answer ≡ known o.participant d.rules.participants and lots_sound o.lots
      and kind_sound d.phase (row d.rules o.security) (turnover_at d.turnover o.security) o.kind)
      (t : answer ≡ true) where
    sounds : order_sound d o ≡ true
    sounds = known_security d o h ∙ holds e t

    -- its participant is known
    owned : o.participant < d.rules.participants
    owned = order_known d o sounds

    -- its need can be reckoned
    good : Reckonable d.rules d.turnover o
    good = reckonable d o (orderly_holds d y) sounds

    owner : o.participant < 16
    owner = good.participant

    inside : (at : ℕ) → at ≡ need_cell_for o.side o.participant (currency_of d.rules o.security) o.security
        → at < cells + cells
    inside at r = omega (arith, r, cell_inside o.side d.rules d.turnover o good)

pub loop-i-init : goal.loop-i-init
loop-i-init c = ((omega arith, refl), record { rest = refl }, added_none _ _ _ _ _ c.requires.1, loops.owns_none _ _ _ _)

pub offset_bounds-floor-i : goal.offset_bounds-floor-i
offset_bounds-floor-i c = let few = few _ c.args.floor.now.count c.args.floor.now.orders refl c.requires.0 in omega arith

pub bounds-floor-i : goal.bounds-floor-i
bounds-floor-i c = let few = few _ c.args.floor.now.count c.args.floor.now.orders refl c.requires.0 in omega arith

pub returns-then-arrival-last : goal.returns-then-arrival-last
returns-then-arrival-last c = arrival_fails _ _ (loops.rises_fails _ _ _ _ _ c.loop-i.invariant.1 (omega arith) _ c.from-arrival.ensures c.if-arrival-last.true)

pub returns-then-rules-order : goal.returns-then-rules-order
returns-then-rules-order c = order_fails _ _ (loops.rest_fails _ _ _ _ c.loop-i.invariant.0 (omega arith) (unknown_security _ _ c.if-rules-order.true))

pub offset_bounds-rules-order : goal.offset_bounds-rules-order
offset_bounds-rules-order c = let h = listed _ (order_at c.args.floor.now.orders c.loop-i.i) c.requires.0 c.if-rules-order.false in omega arith

pub bounds-rules-order : goal.bounds-rules-order
bounds-rules-order c = let h = listed _ (order_at c.args.floor.now.orders c.loop-i.i) c.requires.0 c.if-rules-order.false in omega arith

pub offset_bounds-floor-order : goal.offset_bounds-floor-order
offset_bounds-floor-order c = let h = listed _ (order_at c.args.floor.now.orders c.loop-i.i) c.requires.0 c.if-rules-order.false in omega arith

pub bounds-floor-order : goal.bounds-floor-order
bounds-floor-order c = let h = listed _ (order_at c.args.floor.now.orders c.loop-i.i) c.requires.0 c.if-rules-order.false in omega arith

pub order_sound-requires : goal.order_sound-requires
order_sound-requires c = (orderly_holds _ c.requires.0).rules.step _ c.if-rules-order.false

pub returns-then-not-order_sound : goal.returns-then-not-order_sound
returns-then-not-order_sound c = order_fails _ _ (loops.rest_fails _ _ _ _ c.loop-i.invariant.0 (omega arith) (known_security _ _ c.if-rules-order.false ∙ fails c.order_sound.ensures c.if-not-order_sound.true))

pub offset_bounds-lasts-owner : goal.offset_bounds-lasts-owner
offset_bounds-lasts-owner c = let h = owner _ (order_at c.args.floor.now.orders c.loop-i.i) c.requires.0 c.if-rules-order.false c.order_sound.ensures c.if-not-order_sound.false in omega arith

pub bounds-lasts-owner : goal.bounds-lasts-owner
bounds-lasts-owner c = let h = owner _ (order_at c.args.floor.now.orders c.loop-i.i) c.requires.0 c.if-rules-order.false c.order_sound.ensures c.if-not-order_sound.false in omega arith

pub returns-then-order-lasts : goal.returns-then-order-lasts
returns-then-order-lasts c = own_fails _ _ (loops.owns_fails _ _ _ _ _ _ c.loop-i.invariant.3 (omega arith) (owned _ (order_at c.args.floor.now.orders c.loop-i.i) c.requires.0 c.if-rules-order.false c.order_sound.ensures c.if-not-order_sound.false) c.if-order-lasts.true)

pub offset_bounds-lasts-owner-in-loop-i : goal.offset_bounds-lasts-owner-in-loop-i
offset_bounds-lasts-owner-in-loop-i c = let h = owner _ (order_at c.args.floor.now.orders c.loop-i.i) c.requires.0 c.if-rules-order.false c.order_sound.ensures c.if-not-order_sound.false in omega arith

pub bounds-lasts-owner-in-loop-i : goal.bounds-lasts-owner-in-loop-i
bounds-lasts-owner-in-loop-i c = let h = owner _ (order_at c.args.floor.now.orders c.loop-i.i) c.requires.0 c.if-rules-order.false c.order_sound.ensures c.if-not-order_sound.false in omega arith

pub need_cell-at-requires : goal.need_cell-at-requires
need_cell-at-requires c = let f = good _ (order_at c.args.floor.now.orders c.loop-i.i) c.requires.0 c.if-rules-order.false c.order_sound.ensures c.if-not-order_sound.false in (f.participant, f.currency, f.security)

pub offset_bounds-needs-at : goal.offset_bounds-needs-at
offset_bounds-needs-at c = let h = inside _ (order_at c.args.floor.now.orders c.loop-i.i) c.requires.0 c.if-rules-order.false c.order_sound.ensures c.if-not-order_sound.false c.need_cell-at.result c.need_cell-at.ensures in omega arith

pub bounds-needs-at : goal.bounds-needs-at
bounds-needs-at c = let h = inside _ (order_at c.args.floor.now.orders c.loop-i.i) c.requires.0 c.if-rules-order.false c.order_sound.ensures c.if-not-order_sound.false c.need_cell-at.result c.need_cell-at.ensures in omega arith

pub need_of-requires : goal.need_of-requires
need_of-requires c = let f = good _ (order_at c.args.floor.now.orders c.loop-i.i) c.requires.0 c.if-rules-order.false c.order_sound.ensures c.if-not-order_sound.false in (f.listing, f.price, f.lots)

pub overflow_add-needs : goal.overflow_add-needs
overflow_add-needs c =
    let few = few _ c.args.floor.now.count c.args.floor.now.orders refl c.requires.0 in
    let small = c.loop-i.invariant.2.small c.need_cell-at.result in
    let top = need_top _ _ _ (good _ (order_at c.args.floor.now.orders c.loop-i.i) c.requires.0 c.if-rules-order.false c.order_sound.ensures c.if-not-order_sound.false) in
    omega (arith, c.need_of.ensures)

pub bounds-needs-at-in-loop-i : goal.bounds-needs-at-in-loop-i
bounds-needs-at-in-loop-i c = let h = inside _ (order_at c.args.floor.now.orders c.loop-i.i) c.requires.0 c.if-rules-order.false c.order_sound.ensures c.if-not-order_sound.false c.need_cell-at.result c.need_cell-at.ensures in omega arith

pub loop-i-preserved : goal.loop-i-preserved
loop-i-preserved c =
    let o = order_at c.args.floor.now.orders c.loop-i.i in
    let l = c.loop-i in (
      loops.rest_next _ _ _ _ l.invariant.0 (omega arith) (sounds _ (order_at c.args.floor.now.orders c.loop-i.i) c.requires.0 c.if-rules-order.false c.order_sound.ensures c.if-not-order_sound.false),
      loops.rises_next _ _ _ _ _ l.invariant.1 (omega arith) _ c.from-arrival.ensures c.if-arrival-last.false,
      added_next _ _ _ _ _ _ l.invariant.2 c.need_cell-at.result c.need_of.result (omega arith)
          (good _ (order_at c.args.floor.now.orders c.loop-i.i) c.requires.0 c.if-rules-order.false c.order_sound.ensures c.if-not-order_sound.false) c.need_cell-at.ensures c.need_of.ensures,
      loops.owns_next _ _ _ _ _ _ l.invariant.3 (omega arith) (orderly_holds _ c.requires.0).rules.participants
          (owned _ (order_at c.args.floor.now.orders c.loop-i.i) c.requires.0 c.if-rules-order.false c.order_sound.ensures c.if-not-order_sound.false) c.if-order-lasts.false,
    )

pub given-requires : goal.given-requires
given-requires c =
    let y = orderly_holds _ c.requires.0 in
    (y.rules.participants, codes_within _ _ y.codes (omega arith))

pub returns-then-given-last : goal.returns-then-given-last
returns-then-given-last c =
    let l = c.loop-i in
    arrival_fails _ _
    (loops.rises_done _ _ _ _ _ l.invariant.1 (omega arith)
    ∙ lt-leb l.last (given (day_of c.args.rules.now c.args.floor.now)) (omega (arith, c.if-given-last.true, c.given.ensures)))

pub shared_ref_as_front-lasts_given : goal.shared_ref_as_front-lasts_given
shared_ref_as_front-lasts_given c = (orderly_holds _ c.requires.0).rules.participants

pub slice_bounds-lasts-end : goal.slice_bounds-lasts-end
slice_bounds-lasts-end c =
    let known = (orderly_holds _ c.requires.0).rules.participants in
    omega (arith, c.loop-i.invariant.3.size)

pub slice_bounds-lasts_given-end : goal.slice_bounds-lasts_given-end
slice_bounds-lasts_given-end c =
    let known = (orderly_holds _ c.requires.0).rules.participants in
    let size = c.loop-i.invariant.3.size in
    sym (length-take-le c.args.rules.now.participants c.loop-i.lasts (omega arith))

pub returns : goal.returns
returns c =
    let l = c.loop-i in
    let last = c.loop-i-test.false in
    let known = (orderly_holds _ c.requires.0).rules.participants in
    orders_hold _ _ (loops.rest_done _ _ _ _ l.invariant.0 last)
    (loops.rises_done _ _ _ _ _ l.invariant.1 last
    ∙ le-leb l.last (given (day_of c.args.rules.now c.args.floor.now)) (omega (arith, c.if-given-last.false, c.given.ensures)))
    (loops.owns_done _ _ _ _ _ _ l.invariant.3 last
    ∙ sym (c.lasts_given.ensures ∙ pairs_first l.lasts c.args.floor.now.codes c.args.rules.now.participants (omega (arith, known)) (omega (arith, known))))
    (added_all _ _ _ _ _ _ l.invariant.2 last)
