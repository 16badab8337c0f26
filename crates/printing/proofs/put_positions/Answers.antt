-- `printing::put_positions` meets its contract: the lines of money, then those of pieces.
use native.Mathlib.Omega.{arith}
use Rattle.market.specs.Limits.{max_currencies, max_participants, max_securities}
use Rattle.printing.specs.Lines.{letter_m, position_lines_of}
use Rattle.printing.proofs.Buffer.{puts_then}
use Rattle.printing.proofs.Runs.{participants_length, participants_room}
use Rattle.printing.proofs.put_positions.Goals as goal

pub put_participants-end-requires : goal.put_participants-end-requires
put_participants-end-requires c =
    let known = c.requires.participants_le_max_participants in record {
      participants_le_max_participants = (known.0, omega arith);
      line_room_in_bounds = omega (arith, participants_room max_participants max_currencies known.0 known.1);
    }

pub put_participants-requires : goal.put_participants-requires
put_participants-requires c =
    let known = c.requires.participants_le_max_participants in record {
      participants_le_max_participants = (known.0, known.2);
      line_room_in_bounds = omega (
        arith,
        c.put_participants-end.ensures,
        participants_length max_participants max_currencies known.0 known.1 letter_m c.args.money.now,
        participants_room max_participants max_securities known.0 known.2,
      );
    }

pub returns : goal.returns
unfolding position_lines_of
returns c =
    puts_then c.put_participants-end.ensures
    c.put_participants.ensures
