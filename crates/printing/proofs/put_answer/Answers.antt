-- `printing::put_answer` meets its contract.
use Rattle.printing.proofs.put_answer.Goals as goal

pub returns : goal.returns
returns c = rw c.answer_numbers-numbers.ensures at c.put_line.ensures
