-- `exports::checked::last_lines` meets its contract: a sound state's positions are put.
use Rattle.dayfile.proofs.Resuming.{counts_known}
use Rattle.exports.proofs.checked.last_lines.Goals as goal

pub put_positions-requires-clause-participants_le_max_participants : goal.put_positions-requires-clause-participants_le_max_participants
put_positions-requires-clause-participants_le_max_participants c = counts_known _ c.requires.s_value
