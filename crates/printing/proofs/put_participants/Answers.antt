-- `printing::put_participants`: the lines of the participants passed are put.
use native.Mathlib.Omega.{arith}
use Rattle.printing.proofs.Runs.{participant_run, run_ends, run_next, run_room, run_starts}
use Rattle.printing.proofs.put_participants.Goals as goal

pub loop-participant-init : goal.loop-participant-init
loop-participant-init c = run_starts (participant_run _ _ _) _ _ _ c.requires.line_room_in_bounds

pub put_columns-end-requires : goal.put_columns-end-requires
put_columns-end-requires c =
    record {
      participant_lt_max_participants = (omega arith, omega arith);
      line_room_in_bounds = run_room (participant_run _ _ _) c.loop-participant.invariant (omega arith);
    }

pub loop-participant-preserved : goal.loop-participant-preserved
loop-participant-preserved c =
    run_next (participant_run _ _ _) c.loop-participant.invariant (omega arith)
    c.put_columns-end.ensures

pub returns : goal.returns
returns c = run_ends (participant_run _ _ _) c.loop-participant.invariant (omega arith)
