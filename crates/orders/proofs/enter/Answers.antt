-- `orders::enter` meets its contract: the need is blocked, the entry matched, and what is left of it waits or is freed.
use Rattle.std.proofs.Common.{◌≡◌, ap, arith, length, rules}
use Rattle.market.specs.declared.Floor.{Floor}
use Rattle.market.specs.Limits.{max_waiting}
use Rattle.orders.proofs.Accepting.{blockable, fillable, freeable, gives_done, gives_waits, index_left, left_top, part}
use Rattle.orders.proofs.enter.Goals.{then-waits-gt0, else-waits-gt0}
use Rattle.orders.proofs.enter.Goals as goal

pub block_need-requires : goal.block_need-requires
block_need-requires c = blockable c.requires

pub fill-matched-requires : goal.fill-matched-requires
fill-matched-requires c = fillable c.requires c.block_need.ensures

pub with_lots-rest-requires : goal.with_lots-rest-requires
with_lots-rest-requires c = left_top c.requires c.block_need.ensures c.fill-matched.ensures

pub with_lots-requires : goal.with_lots-requires
with_lots-requires c = omega (arith, left_top c.requires c.block_need.ensures c.fill-matched.ensures)

pub free_need-requires : goal.free_need-requires
free_need-requires c =
    rw (c.with_lots.ensures, c.with_lots-rest.ensures)
    (freeable c.requires c.block_need.ensures c.fill-matched.ensures c.left_waiting-waits.result
    (rw c.with_lots-rest.ensures at c.left_waiting-waits.ensures))

pub bounds-floor-floor : goal.bounds-floor-floor
bounds-floor-floor c =
    rw c.free_need.ensures
    (index_left c.requires c.block_need.ensures c.fill-matched.ensures c.left_waiting-waits.result
    (rw c.with_lots-rest.ensures at c.left_waiting-waits.ensures) c.if-waits-gt0.true)

pub offset_bounds-floor-floor : goal.offset_bounds-floor-floor
offset_bounds-floor-floor c =
    let inside =
    index_left c.requires c.block_need.ensures c.fill-matched.ensures c.left_waiting-waits.result
    (rw c.with_lots-rest.ensures at c.left_waiting-waits.ensures) c.if-waits-gt0.true in
    rw c.free_need.ensures (omega (arith, inside))

pub overflow_add-floor : goal.overflow_add-floor
overflow_add-floor c =
    let inside =
    index_left c.requires c.block_need.ensures c.fill-matched.ensures c.left_waiting-waits.result
    (rw c.with_lots-rest.ensures at c.left_waiting-waits.ensures) c.if-waits-gt0.true in
    rw c.free_need.ensures (omega (arith, inside))

pub overflow_sub-filled : goal.overflow_sub-filled
overflow_sub-filled c = rw c.lots_of.ensures (part c.requires c.block_need.ensures c.fill-matched.ensures)

pub returns : goal.returns
returns c =
    let waits = rw c.with_lots-rest.ensures at c.left_waiting-waits.ensures in
    let freed = rw (c.with_lots.ensures, c.with_lots-rest.ensures) at c.free_need.ensures in
    elim c.if-waits-gt0.branch [
      | then-waits-gt0 w ↦
          let long : length c.free_need.new.floor.orders ≡ max_waiting = search rules in
          let same = ap (λ (z : Floor). z.count) freed in
          let inside =
          index_left c.requires c.block_need.ensures c.fill-matched.ensures c.left_waiting-waits.result waits
          w.if-waits-gt0.true in
          rw (w.floor-is, c.lots_of.ensures, c.with_lots-rest.ensures)
          (gives_waits c.requires c.block_need.ensures c.fill-matched.ensures c.left_waiting-waits.result waits freed
          w.if-waits-gt0.true (omega (arith, inside, long, same)))
      | else-waits-gt0 w ↦
          rw (w.floor-is, c.lots_of.ensures)
          (gives_done c.requires c.block_need.ensures c.fill-matched.ensures c.left_waiting-waits.result waits freed
          (omega (arith, w.if-waits-gt0.false)))
    ]
