-- `printing::put_line` meets its contract: a letter is a word of one.
use Rattle.printing.specs.Lines.{printed_line, worded_line}
use Rattle.printing.proofs.put_line.Goals as goal

pub returns : goal.returns
unfolding printed_line worded_line
returns c = c.put_worded.ensures
