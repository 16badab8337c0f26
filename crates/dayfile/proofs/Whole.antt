-- The whole day in one buffer: where the run is over, all that is printed; else the buffer has no room for it.
use Prim.Native.Nat.{ℕ, ◌+◌, ◌-◌, ◌≤◌, ◌<◌}
use native.Mathlib.Omega.{arith}
use mathlib.Core.Path.{◌≡◌, refl, sym, ap, ◌∙◌}
use mathlib.Core.List.{List, [], ◌++◌, append-nil}
use mathlib.Core.Bool.{Bool, true, false, cond}
use lib.ListN.{drop, length, take, length-append, take-append-drop}
use lib.Seq.{length-take-le}
use borrow.Author.Tests.{eq-eqb, le-leb, leb-false, leb-true, ne_eqb}
use Rattle.market.specs.Tests.{◌=?◌, ◌≤?◌}
use Rattle.market.specs.Day.{Day}
use Rattle.market.specs.View.{view}
use Rattle.market.proofs.Logic.{both, never}
use Rattle.printing.proofs.Buffer.{drop_further}
use Rattle.commands.specs.Output.{carried_out, with_room, joined, text_after}
use Rattle.commands.proofs.Rounds.{carried_then, text_then}
use Rattle.heading.specs.Heading.{heading, max_text}
use Rattle.commands.proofs.WithRoom.{with_room_end, with_room_none}
use Rattle.dayfile.specs.declared.Run.{Run}
use Rattle.dayfile.specs.Output.{outputs, printed}
use Rattle.dayfile.specs.Run.{Begins, Continues, Prints, day_reached, left, room, taken}
use Rattle.dayfile.proofs.Resuming.{none_left_lem}
use Rattle.dayfile.proofs.Some.{left_some, printed_some}

-- the number of bytes, where they are all that is printed, and where they are less
number_all : (some all : List ℕ) → some ≡ all → length some ≡ cond (length some =? length all) (length some) 0
number_all some all e = rw (eq-eqb (length some) (length all) (ap length e))

number_less : (some all : List ℕ) → length some < length all → 0 ≡ cond (length some =? length all) (length some) 0
number_less some all h = rw (ne_eqb (length some) (length all) (λ e. absurd (omega (arith, h, e))))

-- a buffer by what stands at its start
buffered : (before after bytes : List ℕ) (n : ℕ) → n ≤ length after → take n after ≡ bytes
    → drop n after ≡ drop n before → after ≡ bytes ++ drop (length bytes) before
buffered before after bytes n inside e past =
    let size : n ≡ length bytes = sym (length-take-le n after inside) ∙ ap length e in
    sym (take-append-drop n after)
    ∙ ap (λ (l : List ℕ). l ++ drop n after) e
    ∙ ap (λ (l : List ℕ). bytes ++ l) past
    ∙ ap (λ (i : ℕ). bytes ++ drop i before) size

module _ {text before after : List ℕ} {r : Run} (b : Begins text before r after) where
  -- a run that goes on has room
  pub begins_room : r.over ≡ false → room ≤ length before
  begins_room e = go (room ≤? length before) refl
    where
      go : (k : Bool) → (room ≤? length before) ≡ k → room ≤ length before
      go true q = leb-true room (length before) q
      go false q = never (sym e ∙ b.small (leb-false room (length before) q))

  -- commands carried out after those of the beginning
  module _ (e : r.over ≡ false) (count : ℕ) {d : Day} {t : List ℕ}
      (day : d ≡ carried_out count (view r.state) (drop r.at text)) (rest : t ≡ text_after count (drop r.at text)) where
    pub rest_then : t ≡ text_after (b.count + count) (heading text).rest
    rest_then = rest ∙ ap (text_after count) (b.rest e) ∙ sym (text_then b.count count (heading text).rest)

    pub day_then : d ≡ day_reached (length before) text (b.count + count)
    unfolding day_reached
    day_then =
        let read = both (le-leb room (length before) (begins_room e)) (le-leb (length text) max_text (b.going e).short) in
        let first : view r.state ≡ carried_out b.count (heading text).day (heading text).rest =
        rw read at b.day in
        rw read
        (day
        ∙ ap (λ (x : Day). carried_out count x (drop r.at text)) first
        ∙ ap (carried_out count (carried_out b.count (heading text).day (heading text).rest)) (b.rest e)
        ∙ sym (carried_then b.count count (heading text).day (heading text).rest))

  -- nothing that is left has room
  module _ (full : with_room (length after - r.filled) (left text r) ≡ []) where
    part : take r.filled after ≡ taken (length before) text
    part = sym (append-nil (take r.filled after)) ∙ ap (λ (l : List ℕ). take r.filled after ++ l) (sym full) ∙ b.fits

    count : length (taken (length before) text) ≡ r.filled
    count = sym (ap length part) ∙ length-take-le r.filled after b.filled

    prints : {n : ℕ}
        → n ≡ cond (length (taken (length before) text) =? length (printed text)) (length (taken (length before) text)) 0
        → Prints text before n after
    prints e = record {
      size = b.size;
      buffer = buffered before after (taken (length before) text) r.filled b.filled part b.past;
      number = e;
    }

  pub prints_over : r.over ≡ true → Prints text before r.filled after
  prints_over e =
      prints full (go (room ≤? length before) refl)
    where
      full : with_room (length after - r.filled) (left text r) ≡ []
      full = ap (with_room (length after - r.filled)) (none_left_lem text r e) ∙ with_room_end (length after - r.filled)

      bytes : List ℕ
      bytes = taken (length before) text

      go : (k : Bool) → (room ≤? length before) ≡ k
          → r.filled ≡ cond (length bytes =? length (printed text)) (length bytes) 0
      go true q =
          sym (count full)
          ∙ number_all bytes (printed text)
          (sym (part full)
          ∙ sym (append-nil (take r.filled after))
          ∙ ap (λ (os : List (List ℕ)). take r.filled after ++ joined os) (sym (none_left_lem text r e))
          ∙ b.whole (leb-true room (length before) q))
      go false q =
          let none = ap length (with_room_none (length before) (outputs text) (leb-false room (length before) q)) in
          let zero : r.filled ≡ 0 = omega (arith, none, count full) in
          zero ∙ number_less bytes (printed text) (omega (arith, none, printed_some text))

  pub prints_none : r.over ≡ false → length after < r.filled + room → Prints text before 0 after
  prints_none e h =
      let full = with_room_none (length after - r.filled) (left text r) (omega (arith, h)) in
      let two = length-append (take r.filled after) (joined (left text r)) in
      let whole = ap length (b.whole (begins_room e)) in
      let first = length-take-le r.filled after b.filled in
      let some = left_some text r e (b.going e) in
      prints full
      (number_less (taken (length before) text) (printed text)
      (omega (arith, two, whole, first, some, count full)))

  pub begins_then : {q : Run} {last : List ℕ} → r.over ≡ false → Continues text r after q last → Begins text before q last
  begins_then {q} {last} e c = record {
    going = c.going;
    small = λ h. absurd (omega (arith, h, begins_room e));
    size = c.size ∙ b.size;
    filled = c.filled;
    whole = λ enough. c.whole ∙ b.whole enough;
    fits = c.fits ∙ b.fits;
    past = c.past ∙ drop_further after before r.filled q.filled c.forward b.past;
    count = b.count + c.count;
    day = day_then e c.count c.day c.rest;
    rest = λ _. rest_then e c.count c.day c.rest;
    all = λ over _ _. sym (rest_then e c.count c.day c.rest) ∙ c.all over;
  }
