-- A day that was begun, after commands by the public calls: what it has printed so far, and what it prints in the end.
use Prim.Native.Nat.{ℕ, ◌+◌, ◌≤◌, ◌<◌}
use native.Mathlib.Omega.{arith}
use mathlib.Core.Path.{◌≡◌, refl, sym, ◌∙◌}
use mathlib.Core.List.{List, [], ◌++◌}
use mathlib.Core.Bool.{true, false}
use lib.ListN.{drop, length}
use Rattle.market.specs.declared.Answer.{Answer}
use Rattle.market.specs.declared.Floor.{Floor}
use Rattle.market.specs.declared.Rules.{Rules}
use Rattle.market.specs.declared.Ticket.{Ticket}
use Rattle.market.specs.Answers.{numbers_of}
use Rattle.market.specs.Day.{Day}
use Rattle.market.specs.View.{view}
use Rattle.market.specs.Sound.{sound}
use Rattle.market.specs.Ledger.{ledger_sound, whole}
use Rattle.market.proofs.Logic.{both, never}
use Rattle.market.proofs.Deals.{records_none, records_sound_lem}
use Rattle.lines.specs.declared.Line.{Line}
use Rattle.reading.specs.declared.Reading.{Reading}
use Rattle.reading.specs.Commands.{Reads}
use Rattle.printing.specs.Buffer.{Puts}
use Rattle.printing.specs.Lines.{answer_line, flat_lines, position_lines}
use Rattle.printing.proofs.Buffer.{drop_further}
use Rattle.commands.specs.declared.Stand.{Stand}
use Rattle.commands.specs.Output.{carried_out}
use Rattle.commands.specs.Stand as stand
use Rattle.commands.specs.Stand.{Onward, goes_on, room}
use Rattle.commands.proofs.Placing.{command_next, onward_none, onward_then}
use Rattle.dayfile.specs.declared.Run.{Run}
use Rattle.dayfile.specs.Run.{Begins, Prints, left}
use Rattle.dayfile.proofs.Resuming.{fills_over, stand_of}
use Rattle.dayfile.proofs.Whole.{begins_room, begins_then, day_then, prints_over, rest_then}
use Rattle.exports.proofs.PublicCalls.{Follows}

-- any number of commands further than where those on a floor stood, none included, under the same rules; the run is not over,
-- and its state is sound, its records too
pub record FurtherBy (text : List ℕ) (x : Rules) (f : Floor) (from : Stand) (before : List ℕ) (r : Run)
    (after : List ℕ) : Type 0 where
  pub rules : x ≡ r.state.rules
  pub sound : ledger_sound (whole r.state) ≡ true
  pub still : r.over ≡ false
  pub onward : Onward text x f from before r.state.floor (stand_of r) after

abbrev pub Further : (text : List ℕ) → Run → (before : List ℕ) → Run → (after : List ℕ) → Type 0
Further text r before r' after = FurtherBy text r.state.rules r.state.floor (stand_of r) before r' after

-- the run as a command left it: of its own, only the state
pub record Left (q : Run) (says : Line) (ms : List Ticket) (l : List ℕ) (r : Run) (a : Answer) (l' : List ℕ) : Type 0 where
  pub line : r.line ≡ q.line
  pub filled : r.filled ≡ q.filled
  pub over : r.over ≡ q.over
  pub follows : Follows q.state says ms l r.state a l'

-- from where a run was begun
pub further_none : {text before : List ℕ} {q : Run} → ledger_sound (whole q.state) ≡ true → q.over ≡ false
    → stand.Going text q.state.rules q.state.floor (stand_of q) → q.filled ≤ length before → Further text q before q before
further_none sound still going filled = record {
  rules = refl;
  sound = sound;
  still = still;
  onward = onward_none _ _ _ _ _ going filled;
}

-- a sound day's ledger on date 0 with no deal open
pub undealt_sound : (d : Day) → sound d ≡ true → ledger_sound (record { day = d; date = 0; deals = [] }) ≡ true
unfolding ledger_sound
undealt_sound d e = both e (records_sound_lem d.rules 0 [] (records_none d.rules 0 (omega arith)))

module _ {text before out : List ℕ} {x : Rules} {f : Floor} {from : Stand} {q : Run}
    (h : FurtherBy text x f from before q out) where
  pub going : stand.Going text q.state.rules q.state.floor (stand_of q)
  going = rw (← h.rules) h.onward.going

  pub further_next : {after l l' : List ℕ} {r : Run} {a : Answer} {end : ℕ} (c : Reading) → q.at < length text
      → q.filled + room ≤ length out → Reads text q.at c → Left q c.says c.members l r a l'
      → Puts out r.filled (answer_line r.line a ++ flat_lines (numbers_of a).trades l') after end
      → FurtherBy text x f from before
      (record { state = r.state; at = c.next; line = r.line + c.lines; filled = end; over = r.over }) after
  further_next c more fits reads left puts = record {
    rules = h.rules ∙ left.follows.rules;
    sound = left.follows.sound;
    still = left.over ∙ h.still;
    onward =
        rw left.line
        (onward_then h.onward
        (rw h.rules
        (command_next _ _ _ _ _ _ _ _ _ c _ _ going more fits reads left.follows.does (rw (left.line, left.filled) at puts))));
  }

module _ {text before middle after : List ℕ} {r q : Run} (begins : Begins text before r middle) (still : r.over ≡ false)
    (f : Further text r middle q after) where
  -- what stands in the buffer and what is left still make up what is to be printed
  pub begins_on : Begins text before q after
  unfolding left
  begins_on =
      let g = going f in
      record {
        going = λ _. record { sound = g.ready.sound; inside = g.inside; short = g.short; line = g.line };
        size = f.onward.size ∙ begins.size;
        filled = f.onward.filled;
        small = λ h. absurd (omega (arith, h, begins_room begins still));
        whole = λ enough. rw (f.still, ← f.rules) f.onward.whole ∙ rw still at (begins.whole enough);
        fits = rw (f.still, ← f.rules) f.onward.fits ∙ rw still at begins.fits;
        past =
            f.onward.past
            ∙ drop_further middle before r.filled q.filled f.onward.forward begins.past;
        count = begins.count + f.onward.count;
        day = day_then begins still f.onward.count day f.onward.rest;
        rest = λ _. rest_then begins still f.onward.count day f.onward.rest;
        all = λ over. never (sym f.still ∙ over);
      }
    where
      day : view q.state ≡ carried_out f.onward.count (view r.state) (drop r.at text)
      day = rw (← f.rules) f.onward.day

  -- the commands stopped with room left: the positions, and all is printed
  pub prints_all : {out : List ℕ} {end : ℕ} → goes_on (length text) q.at (length after) q.filled ≡ false
      → q.filled + room ≤ length after → Puts after q.filled (position_lines (view q.state)) out end
      → Prints text before end out
  prints_all stops fits puts =
      let none = onward_none _ _ _ _ _ (going f) f.onward.filled in
      let last = fills_over q (record { onward = none; stops = stops }) f.still fits fits puts in
      prints_over (begins_then begins_on f.still last.continues) refl
