-- `waiting::leave` meets its contract: the need is freed and the gap closed.
use native.Mathlib.Omega.{arith}
use Rattle.waiting.proofs.Leaving.{leaver_frees, leaver_left, leaver_room}
use Rattle.waiting.proofs.leave.Goals as goal

pub bounds-floor-at : goal.bounds-floor-at
bounds-floor-at c = omega (arith, leaver_room c.args.rules.now c.args.floor.now c.args.at c.requires.0 c.requires.1)

pub offset_bounds-floor-at : goal.offset_bounds-floor-at
offset_bounds-floor-at c =
    omega (arith, leaver_room c.args.rules.now c.args.floor.now c.args.at c.requires.0 c.requires.1, c.requires.1)

pub free_need-requires : goal.free_need-requires
free_need-requires c = leaver_frees c.args.rules.now c.args.floor.now c.args.at c.requires.0 c.requires.1

pub copy_within-requires-clause-start_le_end : goal.copy_within-requires-clause-start_le_end
copy_within-requires-clause-start_le_end c = rw c.free_need.ensures (omega (arith, c.requires.1))

pub copy_within-requires-clause-in_bounds : goal.copy_within-requires-clause-in_bounds
copy_within-requires-clause-in_bounds c =
    rw c.free_need.ensures (omega (arith, leaver_room c.args.rules.now c.args.floor.now c.args.at c.requires.0 c.requires.1))

pub copy_within-requires-clause-dest_in_bounds : goal.copy_within-requires-clause-dest_in_bounds
copy_within-requires-clause-dest_in_bounds c =
    rw c.free_need.ensures (omega (arith, c.requires.1, leaver_room c.args.rules.now c.args.floor.now c.args.at c.requires.0 c.requires.1))

pub overflow_sub-floor : goal.overflow_sub-floor
overflow_sub-floor c = rw c.free_need.ensures (omega (arith, c.requires.1))

pub returns : goal.returns
returns c =
    rw (c.copy_within.ensures.after, c.free_need.ensures)
    (leaver_left c.args.rules.now c.args.floor.now c.args.at c.requires.0 c.requires.1
    (omega (arith, leaver_room c.args.rules.now c.args.floor.now c.args.at c.requires.0 c.requires.1)))
