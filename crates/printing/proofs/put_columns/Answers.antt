-- `printing::put_columns`: the lines of the columns passed are put.
use native.Mathlib.Omega.{arith}
use Rattle.printing.specs.Lines.{position_line}
use Rattle.printing.proofs.Runs.{column_run, run_ends, run_next, run_room, run_starts}
use Rattle.printing.proofs.put_columns.Goals as goal

pub loop-column-init : goal.loop-column-init
loop-column-init c = run_starts (column_run _ _ _) _ _ _ c.requires.line_room_in_bounds

pub put_line-end-requires : goal.put_line-end-requires
put_line-end-requires c =
    run_room (column_run _ _ _) c.loop-column.invariant (omega arith)

pub loop-column-preserved : goal.loop-column-preserved
unfolding position_line
loop-column-preserved c =
    run_next (column_run _ _ _) c.loop-column.invariant (omega arith)
    (rw c.cell_of-first.ensures at c.put_line-end.ensures)

pub returns : goal.returns
returns c = run_ends (column_run _ _ _) c.loop-column.invariant (omega arith)
