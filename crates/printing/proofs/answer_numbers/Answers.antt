-- `printing::answer_numbers` meets its contract: in either case of an answer the numbers are those of its line.
use Rattle.printing.specs.Lines.{answer_line}
use Rattle.printing.proofs.answer_numbers.Goals as goal

pub returns-in-Refused : goal.returns-in-Refused
unfolding answer_line
returns-in-Refused c = rw c.in-Refused.is

pub returns-in-Done : goal.returns-in-Done
unfolding answer_line
returns-in-Done c = rw c.in-Done.is
