-- `reading::reading_at` meets its contract: a group's first line takes its members' lines, and another is a command of one line.
use Rattle.std.proofs.Common.{rules}
use Rattle.reading.proofs.FirstCommand.{reads_group, reads_single}
use Rattle.reading.proofs.reading_at.Goals as goal

pub returns-in-Call-Group : goal.returns-in-Call-Group
returns-in-Call-Group c =
    reads_group _ _ _ _ _ c.min.ensures c.line_at-line.ensures _ _ _ (search rules) c.group_at.ensures

pub returns : goal.returns
returns c =
    reads_single _ _ _ _ _ c.min.ensures c.line_at-line.ensures _ (λ p n e. search rules) c.single.ensures
