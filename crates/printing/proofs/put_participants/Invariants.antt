-- `printing::put_participants`: the lines of the participants passed are put.
use Prim.Native.Nat.{◌*◌}
use Rattle.printing.specs.Buffer.{line_room}
use Rattle.printing.specs.Lines.{participant_lines}
use Rattle.printing.proofs.Runs.{Running}
use Rattle.printing.proofs.put_participants.Given as goal

abbrev pub invariant-loop-participant : goal.invariant-loop-participant
invariant-loop-participant l =
    Running (participant_lines l.letter l.positions l.columns) (l.columns * line_room 4) l.participants l.initial.out l.initial.end l.out l.end l.participant
