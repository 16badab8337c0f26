-- `printing::put_fields`: the fields of the numbers passed are put.
use Rattle.std.proofs.Common.{◌+◌, ◌*◌, ◌≤◌, length, take}
use Rattle.printing.specs.Buffer.{Puts}
use Rattle.printing.specs.Lines.{number_fields}
use Rattle.printing.proofs.put_fields.Given as goal

abbrev pub invariant-loop-number : goal.invariant-loop-number
invariant-loop-number l =
    (l.initial.end + 21 * length l.numbers ≤ length l.initial.out)
    × Puts l.initial.out l.initial.end (number_fields (take l.number-index l.numbers)) l.out l.end
