-- The beginning of a run: the first output stands in the buffer, the others are left.
use Prim.Native.Nat.{ℕ, ◌-◌, ◌≤◌, ◌<◌}
use native.Mathlib.Omega.{arith}
use mathlib.Core.Path.{◌≡◌, refl, ap, sym, ◌∙◌}
use mathlib.Core.List.{List, [], ◌∷◌, ◌++◌}
use mathlib.Core.Bool.{Bool, true, false, not}
use lib.ListN.{drop, length, take}
use borrow.Author.Tests.{le-leb, le-ltb, lt-leb, lt-ltb}
use Rattle.market.specs.declared.Answer.TheVariants.{Refused}
use Rattle.market.specs.Tests.{◌and◌}
use Rattle.market.specs.View.{view}
use Rattle.market.specs.Answers.{is_done}
use Rattle.market.specs.Opening.{no_rules, opened}
use Rattle.market.proofs.Logic.{both, never}
use Rattle.printing.specs.Buffer.{Puts}
use Rattle.printing.specs.Lines.{answer_line}
use Rattle.heading.specs.declared.Headed.{Headed}
use Rattle.heading.specs.Heading.{ReadsHeading, heading, max_text}
use Rattle.commands.specs.Output.{with_room, joined}
use Rattle.commands.proofs.WithRoom.{with_room_end, with_room_next, with_room_none}
use Rattle.dayfile.specs.declared.Run.{Run}
use Rattle.dayfile.specs.Output.{after_heading, outputs, too_long}
use Rattle.dayfile.specs.Run.{Begins, Going, TooLong, day_reached, is_read, left, room}
use Rattle.dayfile.proofs.Resuming.{none_left_lem, puts_inside}

-- the first output was put
begins_first : {text before after bytes : List ℕ} {r : Run} → room ≤ length before
    → Puts before 0 bytes after r.filled → outputs text ≡ bytes ∷ left text r → (r.over ≡ false → Going text r)
    → view r.state ≡ day_reached (length before) text 0 → (r.over ≡ false → drop r.at text ≡ (heading text).rest)
    → (r.over ≡ true → is_read (length before) text ≡ true → is_done (heading text).answer ≡ true
    → (heading text).rest ≡ []) → Begins text before r after
begins_first {text} {before} {after} {bytes} {r} enough p e going day rest all = record {
  going = going;
  small = λ h. absurd (omega (arith, h, enough));
  size = p.size;
  filled = puts_inside (omega arith) p;
  whole = λ _. ap (λ (l : List ℕ). l ++ joined (left text r)) p.text ∙ sym (ap joined e);
  fits =
      let rest : length before - length bytes ≡ length after - r.filled = omega (arith, p.end, p.size) in
      ap (λ (l : List ℕ). l ++ with_room (length after - r.filled) (left text r)) p.text
      ∙ sym (ap (with_room (length before)) e
      ∙ with_room_next (length before) bytes (left text r) enough
      ∙ ap (λ (n : ℕ). bytes ++ with_room n (left text r)) rest);
  past = p.past;
  count = 0;
  day = day;
  rest = rest;
  all = all;
}

-- the buffer has no room for an output
pub begins_small : {text before : List ℕ} {r : Run} → length before < room → r.over ≡ true → r.filled ≡ 0
    → view r.state ≡ opened no_rules → Begins text before r before
unfolding day_reached ◌and◌
begins_small {text} {before} {r} less over none zeros = record {
  going = λ goes. never (sym goes ∙ over);
  small = λ _. over;
  size = refl;
  filled = omega (arith, none);
  whole = λ enough. absurd (omega (arith, less, enough));
  fits =
      ap (λ (n : ℕ). take n before ++ with_room (length before - r.filled) (left text r)) none
      ∙ ap (with_room (length before - r.filled)) (none_left_lem text r over)
      ∙ with_room_end (length before - r.filled)
      ∙ sym (with_room_none (length before) (outputs text) less);
  past = refl;
  count = 0;
  day = rw (lt-leb room (length before) less) zeros;
  rest = λ goes. never (sym goes ∙ over);
  all = λ _ read. never (rw (lt-leb room (length before) less) at read);
}

pub begins_long : {text before after : List ℕ} {r : Run} → room ≤ length before → max_text < length text
    → TooLong before r after → Begins text before r after
unfolding outputs day_reached ◌and◌
begins_long {text} {before} {r = r} enough long t =
    begins_first enough t.puts
    (rw (lt-ltb max_text (length text) long)
    (ap (λ (os : List (List ℕ)). answer_line 0 (Refused too_long 0) ∷ os) (sym (none_left_lem text r t.over))))
    (λ goes. never (sym goes ∙ t.over))
    (rw (le-leb room (length before) enough, lt-leb (length text) max_text long) t.state)
    (λ goes. never (sym goes ∙ t.over))
    (λ _ read. never (rw (le-leb room (length before) enough, lt-leb (length text) max_text long) at read))

module _ {text before after : List ℕ} {h : Headed} {n : ℕ} (enough : room ≤ length before) (short : length text ≤ max_text)
    (reads : ReadsHeading text h) (puts : Puts before 0 (answer_line h.line h.outcome.answer) after n) where
  outputs_short : outputs text ≡ after_heading (heading text)
  unfolding outputs
  outputs_short = rw (le-ltb max_text (length text) short)

  day_read : view h.outcome.state ≡ day_reached (length before) text 0
  unfolding day_reached
  day_read =
      rw (both (le-leb room (length before) enough) (le-leb (length text) max_text short)) reads.day

  pub begins_headed : (done : Bool) → done ≡ is_done h.outcome.answer
      → Begins text before
      (record { state = h.outcome.state; at = h.at; line = h.next; filled = n; over = not done }) after
  unfolding left
  begins_headed true e =
      let accepts : is_done (heading text).answer ≡ true = ap is_done (sym reads.answer) ∙ sym e in
      begins_first enough puts
      (rw (
        outputs_short,
        accepts,
        reads.line,
        reads.answer,
        reads.day,
        reads.next (sym e),
        reads.rest (sym e),
      ))
      (λ goes. record {
        sound = reads.sound (sym e);
        inside = reads.inside (sym e);
        short = short;
        line = omega (arith, reads.few (sym e));
      })
      day_read (λ _. reads.rest (sym e)) (λ over. never over)
  begins_headed false e =
      let refuses : is_done (heading text).answer ≡ false = ap is_done (sym reads.answer) ∙ sym e in
      begins_first enough puts (rw (outputs_short, refuses, reads.line, reads.answer)) (λ goes. never (sym goes))
      day_read (λ goes. never (sym goes)) (λ _ _ done. never (sym refuses ∙ done))
