-- `reserves::reserve` meets its contract: the move is its call on the floor that is lent.
use Rattle.std.proofs.Common.{rules}
use Rattle.reserves.proofs.Moving.{carries_lent, movable}
use Rattle.reserves.proofs.reserve.Goals as goal

pub moved-requires : goal.moved-requires
moved-requires c = movable c.args.rules.now c.args.floor.now c.requires

pub returns-in-Ok : goal.returns-in-Ok
returns-in-Ok c = carries_lent c.requires c.in-Ok.ensures

pub returns-in-Err : goal.returns-in-Err
returns-in-Err c = let lent = carries_lent c.requires c.in-Err.ensures in search rules
