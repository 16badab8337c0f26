-- Where lines that were put end at most.
use Rattle.std.proofs.Common.{ℕ, zero, suc, ◌+◌, ◌*◌, ◌≤◌, List, length, take, drop, suc-mul, arith, length-append, length-take}
use Rattle.market.specs.Limits.{max_currencies, max_participants, max_securities, numbers_per_trade}
use Rattle.printing.specs.Buffer.{Puts, line_room, worded_room}
use Rattle.printing.specs.Lines.{flat_lines, letter_m, letter_q, letter_t, position_lines_of, worded_line}
use Rattle.printing.proofs.Lines.{line_length, worded_length}
use Rattle.printing.proofs.Runs.{participants_length}
use Rattle.script.specs.Rooms.{Adds, positions_room}

pub ends : {before bytes after : List ℕ} {at r n : ℕ} → Puts before at bytes after r → length bytes ≤ n → r ≤ at + n
ends p h = omega arith

-- a line of a word and numbers takes at most its room
pub adds_worded : {before after : List ℕ} {at r : ℕ} (word numbers : List ℕ) → Puts before at (worded_line word numbers) after r
    → Adds (worded_room (length word) (length numbers)) before at after r
adds_worded word numbers p = record { size = p.size; most = ends p (worded_length word numbers) }

pub trades_length : (n : ℕ) (l : List ℕ) → length (flat_lines n l) ≤ n * line_room numbers_per_trade
unfolding flat_lines
trades_length zero l = omega arith
trades_length (suc n) l =
    simp length-append
    (omega (
      arith,
      line_length letter_t (take numbers_per_trade l),
      length-take numbers_per_trade l,
      trades_length n (drop numbers_per_trade l),
      suc-mul n (line_room numbers_per_trade),
    ))

pub positions_length : (participants currencies securities : ℕ) (money pieces : List ℕ) → participants ≤ max_participants
    → currencies ≤ max_currencies → securities ≤ max_securities
    → length (position_lines_of participants currencies securities money pieces) ≤ positions_room
unfolding position_lines_of
positions_length participants currencies securities money pieces p c s =
    simp length-append
    (omega (
      arith,
      participants_length max_participants max_currencies p c letter_m money,
      participants_length max_participants max_securities p s letter_q pieces,
    ))
