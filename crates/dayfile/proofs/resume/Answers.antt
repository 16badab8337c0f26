-- `dayfile::resume` meets its contract: the commands on the state's floor, and with room left the positions.
use native.Mathlib.Omega.{arith}
use Rattle.dayfile.proofs.Resuming.{counts_known, fills_on, fills_over}
use Rattle.dayfile.proofs.resume.Goals as goal

pub returns-then-out-run : goal.returns-then-out-run
returns-then-out-run c =
    fills_on c.args.from c.commands-last.ensures c.requires.over_value c.requires.room_in_bounds
    (omega (arith, c.if-out-run.true, c.commands-last.ensures.onward.size, c.requires.room_in_bounds))

pub put_positions-requires-clause-participants_le_max_participants : goal.put_positions-requires-clause-participants_le_max_participants
put_positions-requires-clause-participants_le_max_participants c = counts_known _ c.requires.going.sound

pub returns : goal.returns
returns c =
    fills_over c.args.from c.commands-last.ensures c.requires.over_value c.requires.room_in_bounds
    (omega (arith, c.if-out-run.false, c.commands-last.ensures.onward.size, c.requires.room_in_bounds)) c.put_positions.ensures
