-- `script::answered` meets its contract.
use Rattle.std.proofs.Common.{arith, rules}
use Rattle.printing.proofs.Lines.{answer_length}
use Rattle.script.proofs.Lengths.{ends}
use Rattle.script.proofs.answered.Goals as goal

pub returns : goal.returns
returns c =
    let most = ends c.put_answer-p.ensures (answer_length _ _) in
    record { size = search rules; at = search rules; lent = search rules; filled = omega arith; goes = search rules }
