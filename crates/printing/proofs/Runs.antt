-- Lines of trades, columns and participants, one block of bytes after another: what a loop that puts them keeps, and
-- their length.
use Prim.Native.Nat.{ℕ, zero, suc, ◌+◌, ◌-◌, ◌*◌, ◌≤◌, ◌<◌}
use native.Mathlib.Nat.{add-zero, le_trans, mul-le-mul, mul-le-mul_right, suc-mul, zero-add}
use native.Mathlib.Numerals.{add-one}
use native.Mathlib.Omega.{arith}
use mathlib.Core.Path.{◌≡◌, refl, ap, sym, ◌∙◌}
use mathlib.Core.List.{List, [], ◌∷◌, ◌++◌, append_assoc, append-nil}
use lib.ListN.{drop, length, take, length-append, length-drop, length-take}
use lib.Seq.{drop-append_seam, drop-drop, length-take-le, take-append_seam, take-take}
use Rattle.std.proofs.lemmas.List.{drop-take}
use Rattle.market.specs.Limits.{numbers_per_trade}
use Rattle.market.specs.Day.{cell, position}
use Rattle.market.specs.TradeList.{Trade, all_numbers, numbers, written}
use Rattle.printing.specs.Buffer.{Puts, line_room}
use Rattle.printing.specs.Lines.{column_lines, flat_lines, letter_t, participant_lines}
use Rattle.printing.specs.Lines.{position_line, printed_line, trade_lines}
use Rattle.printing.proofs.Buffer.{puts_none, puts_then}
use Rattle.printing.proofs.Lines.{line_length}

-- n blocks from number c on, block c first; a block takes at most room
pub record Run (block : ℕ → List ℕ) (all : ℕ → ℕ → List ℕ) (room : ℕ) : Type 0 where
  pub none : (c : ℕ) → all 0 c ≡ []
  pub more : (n c : ℕ) → all (suc n) c ≡ block c ++ all n (suc c)
  pub fits : (c : ℕ) → length (block c) ≤ room

-- the first i of n blocks are put
pub record Running (all : ℕ → ℕ → List ℕ) (room n : ℕ) (before : List ℕ) (at : ℕ) (after : List ℕ) (end i : ℕ)
    : Type 0 where
  pub within : i ≤ n
  pub lent : at + n * room ≤ length before
  pub done : Puts before at (all i 0) after end

module _ {block : ℕ → List ℕ} {all : ℕ → ℕ → List ℕ} {room : ℕ} (run : Run block all room) where
  run_last : (n c : ℕ) → all (suc n) c ≡ all n c ++ block (c + n)
  run_last zero c = rw (run.more 0 c, run.none, run.none, add-zero, append-nil)
  run_last (suc n) c =
      let same : suc c + n ≡ c + suc n = omega arith in
      rw (run.more (suc n) c, run.more n c, run_last n (suc c), same, append_assoc)

  run_length : (n c : ℕ) → length (all n c) ≤ n * room
  run_length zero c = rw (run.none c) (omega arith)
  run_length (suc n) c =
      rw (run.more n c, length-append, suc-mul) (omega (arith, run.fits c, run_length n (suc c)))

  pub run_starts : (n : ℕ) (l : List ℕ) (at : ℕ) → at + n * room ≤ length l → Running all room n l at l at 0
  run_starts n l at h = record {
    within = omega arith;
    lent = h;
    done = rw (run.none 0) (puts_none l at);
  }

  module _ {n : ℕ} {before : List ℕ} {at : ℕ} {after : List ℕ} {end i : ℕ}
      (so_far : Running all room n before at after end i) where
    -- there is room for the next block
    pub run_room : i < n → end + room ≤ length after
    run_room h =
        let most : suc i * room ≤ n * room = mul-le-mul_right room h in
        omega (arith, suc-mul i room, run_length i 0)

    pub run_next : {next : List ℕ} {r : ℕ} → i < n → Puts after end (block i) next r
        → Running all room n before at next r (i + 1)
    run_next h p = record {
      within = omega arith;
      lent = so_far.lent;
      done = rw (add-one, run_last i 0, zero-add) (puts_then so_far.done p);
    }

    pub run_ends : n ≤ i → Puts before at (all n 0) after end
    run_ends h =
        let same : i ≡ n = omega arith in
        rw same at so_far.done

-- the lines of a flat list of trades
pub trade_run : (l : List ℕ)
    → Run (λ c. printed_line letter_t (take numbers_per_trade (drop (c * numbers_per_trade) l)))
    (λ n c. flat_lines n (drop (c * numbers_per_trade) l)) (line_room numbers_per_trade)
unfolding flat_lines
trade_run l = record {
  none = λ c. refl;
  more = λ n c.
      let next : c * numbers_per_trade + numbers_per_trade ≡ suc c * numbers_per_trade = omega arith in
      rw (drop-drop, next);
  fits = λ c.
      let part = drop (c * numbers_per_trade) l in
      omega (arith, line_length letter_t (take numbers_per_trade part), length-take numbers_per_trade part);
}

-- the next trade of the first n, and those behind it
pub trade_next : (l : List ℕ) (n i : ℕ) (trade rest : List ℕ) → n * numbers_per_trade ≤ length l
    → drop (i * numbers_per_trade) (take (n * numbers_per_trade) l) ≡ trade ++ rest → length trade ≡ numbers_per_trade
    → (i < n) × (trade ≡ take numbers_per_trade (drop (i * numbers_per_trade) l))
    × (rest ≡ drop ((i + 1) * numbers_per_trade) (take (n * numbers_per_trade) l))
trade_next l n i trade rest h e k =
    let first = i * numbers_per_trade in
    let left = n * numbers_per_trade - first in
    let size = ap length e in
    let inside : i < n =
    omega (arith, size, length-append trade rest, length-drop first (take (n * numbers_per_trade) l), length-take-le (n * numbers_per_trade) l h) in
    let all : first + left ≡ n * numbers_per_trade = omega arith in
    let from : take left (drop first l) ≡ trade ++ rest = sym (drop-take first left l) ∙ ap (λ (m : ℕ). drop first (take m l)) all ∙ e in
    let next : first + numbers_per_trade ≡ (i + 1) * numbers_per_trade = omega arith in (
      inside,
      sym (take-append_seam trade rest) ∙ ap (λ (m : ℕ). take m (trade ++ rest)) k ∙ ap (take numbers_per_trade) (sym from)
          ∙ take-take numbers_per_trade left (drop first l) (omega arith),
      sym (drop-append_seam trade rest) ∙ ap (λ (m : ℕ). drop m (trade ++ rest)) k ∙ ap (drop numbers_per_trade) (sym e)
          ∙ drop-drop numbers_per_trade first (take (n * numbers_per_trade) l) ∙ ap (λ (m : ℕ). drop m (take (n * numbers_per_trade) l)) next,
    )

-- the lines of a participant
pub column_run : (letter : ℕ) (l : List ℕ) (p : ℕ)
    → Run (λ c. position_line letter p c (position l (cell p c))) (column_lines letter l p) (line_room 4)
unfolding column_lines position_line
column_run letter l p = record {
  none = λ c. refl;
  more = λ n c. refl;
  fits = λ c. line_length letter _;
}

-- the lines of the participants
pub participant_run : (letter : ℕ) (l : List ℕ) (columns : ℕ)
    → Run (λ p. column_lines letter l p columns 0) (participant_lines letter l columns) (columns * line_room 4)
unfolding participant_lines
participant_run letter l columns = record {
  none = λ c. refl;
  more = λ n c. refl;
  fits = λ p. run_length (column_run letter l p) columns 0;
}

flat_front : (ts : List Trade) (l : List ℕ) → flat_lines (length ts) (all_numbers ts ++ l) ≡ trade_lines ts
unfolding flat_lines trade_lines
flat_front [] l = refl
flat_front (t ∷ ts) l = ap (λ (x : List ℕ). printed_line letter_t (numbers t) ++ x) (flat_front ts l)

-- a flat list to which trades are written has their lines
pub flat_lines_lem : (ts : List Trade) (l : List ℕ) → flat_lines (length ts) (written ts l) ≡ trade_lines ts
flat_lines_lem ts l = flat_front ts (drop (numbers_per_trade * length ts) l)

-- within limits, the room of the participants' lines and their length
module _ {participants columns : ℕ} (mostParticipants mostColumns : ℕ) (h : participants ≤ mostParticipants)
    (k : columns ≤ mostColumns) where
  pub participants_room : participants * (columns * line_room 4) ≤ mostParticipants * (mostColumns * line_room 4)
  participants_room = mul-le-mul h (mul-le-mul_right (line_room 4) k)

  pub participants_length : (letter : ℕ) (l : List ℕ)
      → length (participant_lines letter l columns participants 0) ≤ mostParticipants * (mostColumns * line_room 4)
  participants_length letter l =
      le_trans (run_length (participant_run letter l columns) participants 0) participants_room
