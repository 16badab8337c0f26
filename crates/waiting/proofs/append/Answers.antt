-- `waiting::append` meets its contract: the need is blocked, and the order waits.
use native.Mathlib.Omega.{arith}
use Rattle.std.proofs.Common.{◌≡◌, ◌<◌, length, rules}
use Rattle.market.specs.Limits.{max_waiting}
use Rattle.market.specs.Entry.{placed}
use Rattle.waiting.proofs.Appending.{append_blocks, append_day, append_room}
use Rattle.waiting.proofs.append.Goals as goal

pub block_need-requires : goal.block_need-requires
block_need-requires c = append_blocks c.args.rules.now c.args.floor.now c.args.o c.requires.0 c.requires.1

pub offset_bounds-floor-floor : goal.offset_bounds-floor-floor
offset_bounds-floor-floor c =
    rw c.block_need.ensures (omega (arith, append_room c.args.rules.now c.args.floor.now c.args.o c.requires.0 c.requires.1))

pub bounds-floor-floor : goal.bounds-floor-floor
bounds-floor-floor c =
    rw c.block_need.ensures (append_room c.args.rules.now c.args.floor.now c.args.o c.requires.0 c.requires.1)

pub overflow_add-floor : goal.overflow_add-floor
overflow_add-floor c =
    rw c.block_need.ensures (omega (arith, append_room c.args.rules.now c.args.floor.now c.args.o c.requires.0 c.requires.1))

pub returns-clause-answer : goal.returns-clause-answer
unfolding placed
returns-clause-answer c = rw c.lots_of.ensures

pub returns-clause-day : goal.returns-clause-day
returns-clause-day c =
    let room : c.args.floor.now.count < max_waiting =
    append_room c.args.rules.now c.args.floor.now c.args.o c.requires.0 c.requires.1 in
    let long : length c.args.floor.now.orders ≡ max_waiting = search rules in
    rw c.block_need.ensures
    (append_day c.args.rules.now c.args.floor.now c.args.o c.requires.0 c.requires.1 (omega (arith, room, long)))
