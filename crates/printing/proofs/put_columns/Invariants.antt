-- `printing::put_columns`: the lines of the columns passed are put.
use Rattle.printing.specs.Buffer.{line_room}
use Rattle.printing.specs.Lines.{column_lines}
use Rattle.printing.proofs.Runs.{Running}
use Rattle.printing.proofs.put_columns.Given as goal

abbrev pub invariant-loop-column : goal.invariant-loop-column
invariant-loop-column l =
    Running (column_lines l.letter l.positions l.participant) (line_room 4) l.columns l.initial.out l.initial.end l.out l.end l.column
