-- `lines::number` meets its contract: the digits so far make up `digits`.
use Rattle.lines.proofs.Digits.{Read}
use Rattle.lines.proofs.number.Given as goal

abbrev pub invariant-loop-b : goal.invariant-loop-b
invariant-loop-b l = Read l.field l.digits l.b-index
