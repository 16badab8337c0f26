-- A run after the commands that the buffer had room for: as it stands, or after the positions.
use Prim.Native.Nat.{ℕ, ◌+◌, ◌-◌, ◌≤◌, ◌<◌}
use native.Mathlib.Omega.{arith}
use mathlib.Core.Path.{◌≡◌, refl, sym, ap, ◌∙◌}
use mathlib.Core.List.{List, [], ◌∷◌, ◌++◌, append-nil}
use mathlib.Core.Bool.{Bool, true, false}
use lib.ListN.{drop, length, take, length-append, length-take, drop_of_length-le}
use borrow.Author.Tests.{le-leb, ltb-false}
use Rattle.market.specs.declared.Floor.{Floor}
use Rattle.market.specs.Tests.{◌<?◌}
use Rattle.market.specs.Day.{Day}
use Rattle.market.specs.View.{Sized, day_of, view}
use Rattle.market.specs.Limits.{max_currencies, max_participants, max_securities}
use Rattle.market.specs.Sound.{sound}
use Rattle.market.proofs.Logic.{and_true, both, never}
use Rattle.market.proofs.Known.{rules_ok_lem}
use Rattle.printing.specs.Buffer.{Puts}
use Rattle.printing.specs.Lines.{position_lines}
use Rattle.printing.proofs.Buffer.{drop_further}
use Rattle.commands.specs.declared.Stand.{Stand}
use Rattle.commands.specs.Output.{with_room, joined, outputs_from}
use Rattle.commands.specs.Stand as stand
use Rattle.commands.specs.Stand.{Onward, Runs, goes_on, room, to_print}
use Rattle.commands.proofs.Rounds.{outputs_end}
use Rattle.commands.proofs.WithRoom.{with_room_end, with_room_next}
use Rattle.dayfile.specs.declared.Run.{Run}
use Rattle.dayfile.specs.Run as run
use Rattle.dayfile.specs.Run.{Fills, ahead, left, to_go}

-- the counts of a sound day
pub counts_known : (d : Day) → sound d ≡ true
    → (d.rules.participants ≤ max_participants) × (d.rules.currencies ≤ max_currencies)
    × (d.rules.securities ≤ max_securities)
unfolding sound
counts_known d e =
    let ok = rules_ok_lem d.rules (and_true e).0 in
    (ok.participants, ok.currencies, ok.securities)

-- where the commands of a run stand at first
abbrev pub stand_of : Run → Stand
stand_of r = record { at = r.at; line = r.line; filled = r.filled }

-- with room left, the commands stop at the text's end
at_end : (length at size filled : ℕ) → goes_on length at size filled ≡ false → filled + room ≤ size → length ≤ at
at_end length at size filled e fits = go (at <? length) refl
  where
    go : (t : Bool) → (at <? length) ≡ t → length ≤ at
    go true q = never (sym e ∙ both q (le-leb (filled + room) size fits))
    go false q = ltb-false at length q

-- where more of a buffer is filled, less is to be printed
less_ahead : (before after x y : List ℕ) (f f' : ℕ) → f ≤ length before → f' ≤ length after → f < f'
    → take f' after ++ x ≡ take f before ++ y → length x < length y
less_ahead before after x y f f' h h' more e =
    omega (
      arith,
      ap length e,
      length-append (take f' after) x,
      length-append (take f before) y,
      length-take f before,
      length-take f' after,
    )

-- what is put into a buffer ends inside it
pub puts_inside : {before bytes after : List ℕ} {at end : ℕ} → at ≤ length before → Puts before at bytes after end
    → end ≤ length after
puts_inside {before} {bytes} {after} {at} {end} h p =
    omega (
      arith,
      ap length p.text,
      length-append (take at before) bytes,
      length-take at before,
      length-take end after,
      p.end,
    )

-- a run that is over leaves nothing
pub none_left_lem : (text : List ℕ) (r : Run) → r.over ≡ true → left text r ≡ []
unfolding left
none_left_lem text r e = rw e

-- the commands of a run begin where it stands
pub starts : {text : List ℕ} {r : Run} → Sized (view r.state) → run.Going text r
    → stand.Going text r.state.rules r.state.floor (stand_of r)
starts z g = record {
  ready = record { sized = z; sound = g.sound };
  inside = g.inside;
  short = g.short;
  line = g.line;
}

module _ {text before after : List ℕ} {f : Floor} {last : Stand} (from : Run)
    (runs : Runs text from.state.rules from.state.floor (stand_of from) before f last after)
    (still : from.over ≡ false) (lent : from.filled + room ≤ length before) where
  abbrev o : Onward text from.state.rules from.state.floor (stand_of from) before f last after
  o = runs.onward

  -- the buffer has no room for another command
  pub fills_on : length after < last.filled + room
      → Fills text from before
      (record from { state = record from.state { floor = f }; at = last.at; line = last.line; filled = last.filled }) after
  unfolding left to_go
  fills_on full =
      let size = o.size in
      let filled = o.filled in
      let whole = o.whole in
      record {
        continues = record {
          going = λ _. record {
            sound = o.going.ready.sound;
            inside = o.going.inside;
            short = o.going.short;
            line = o.going.line;
          };
          size = size;
          filled = filled;
          forward = o.forward;
          whole = rw still whole;
          fits = rw still o.fits;
          past = o.past;
          less =
              rw still
              (omega (
                arith,
                less_ahead before after _ _ from.filled last.filled (omega (arith, lent)) filled
                    (omega (arith, lent, full, size)) whole,
              ));
          count = o.count;
          day = o.day;
          rest = o.rest;
          all = λ over. never (sym still ∙ over);
        };
        full = λ _. full;
      }

  -- it has room, so that no command is left: the positions, and the run is over
  pub fills_over : {out : List ℕ} {end : ℕ} → last.filled + room ≤ length after
      → Puts after last.filled (position_lines (day_of from.state.rules f)) out end
      → Fills text from before
      (record { state = record from.state { floor = f }; at = last.at; line = last.line; filled = end; over = true }) out
  unfolding left to_go
  fills_over {out} {end} enough p = record {
    continues = record {
      going = λ over. never (sym over);
      size = p.size ∙ o.size;
      filled = puts_inside (omega (arith, enough)) p;
      forward = omega (arith, o.forward, p.end);
      whole = rw still (append-nil (take end out) ∙ p.text ∙ ap (λ (l : List ℕ). take last.filled after ++ l) all ∙ o.whole);
      fits =
          rw still
          (ap (λ (l : List ℕ). take end out ++ l) (with_room_end (length out - end))
          ∙ append-nil (take end out) ∙ p.text
          ∙ ap (λ (l : List ℕ). take last.filled after ++ l) fits
          ∙ o.fits);
      past = p.past ∙ drop_further after before last.filled end (omega (arith, p.end)) o.past;
      less = rw still (omega arith);
      count = o.count;
      day = o.day;
      rest = o.rest;
      all = λ _. ended;
    };
    full = λ over. never (sym over);
  }
    where
      ended : drop last.at text ≡ []
      ended =
          drop_of_length-le text {i = last.at}
          (at_end (length text) last.at (length after) last.filled runs.stops enough)

      lines : List ℕ
      lines = position_lines (day_of from.state.rules f)

      positions : to_print text from.state.rules f last ≡ lines ∷ []
      positions = ap (outputs_from _ last.line) ended ∙ outputs_end _ last.line

      all : lines ≡ joined (to_print text from.state.rules f last)
      all = sym (ap joined positions ∙ append-nil lines)

      fits : lines ≡ with_room (length after - last.filled) (to_print text from.state.rules f last)
      fits =
          sym (ap (with_room (length after - last.filled)) positions
          ∙ with_room_next (length after - last.filled) lines [] (omega (arith, enough))
          ∙ ap (λ (l : List ℕ). lines ++ l) (with_room_end (length after - last.filled - length lines))
          ∙ append-nil lines)
