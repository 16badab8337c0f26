-- What a command puts into the buffer is what was to be printed next.
use Prim.Native.Nat.{ℕ, ◌+◌, ◌*◌, ◌-◌, ◌≤◌, ◌<◌}
use native.Mathlib.Omega.{arith}
use mathlib.Core.Path.{◌≡◌, refl, sym, ap, ◌∙◌}
use mathlib.Core.List.{List, ◌∷◌, ◌++◌, append_assoc}
use lib.ListN.{drop, length, take, length-append, length-drop, length-take}
use Rattle.market.specs.declared.Answer.{Answer}
use Rattle.market.specs.declared.Floor.{Floor}
use Rattle.market.specs.declared.Rules.{Rules}
use Rattle.market.specs.declared.Ticket.{Ticket}
use Rattle.market.specs.Limits.{max_trades, numbers_per_trade}
use Rattle.market.specs.Day.{Day}
use Rattle.market.specs.View.{day_of}
use Rattle.market.specs.Answers.{Result, numbers_of}
use Rattle.lines.specs.declared.Line.{Line}
use Rattle.reading.specs.declared.Reading.{Reading}
use Rattle.reading.specs.Commands.{Reads, yield}
use Rattle.reading.proofs.Yields.{yield_few}
use Rattle.printing.specs.Buffer.{Puts, line_room}
use Rattle.printing.specs.Lines.{answer_line, flat_lines}
use Rattle.printing.proofs.Lines.{answer_length}
use Rattle.printing.proofs.Buffer.{drop_further, puts_none, puts_then}
use Rattle.printing.proofs.Runs.{flat_lines_lem}
use Rattle.commands.specs.Command.{Does, carried}
use Rattle.commands.specs.Output.{carried_out, command_lines, with_room, joined, outputs_from, text_after}
use Rattle.commands.specs.declared.Stand.{Stand}
use Rattle.commands.specs.Stand.{Going, Onward, room}
use Rattle.commands.proofs.Rounds.{carried_then, outputs_next, text_then}
use Rattle.commands.proofs.WithRoom.{with_room_next}

-- a command's trades have room in the buffer
pub trades_fit : {out out' : List ℕ} {at end : ℕ} (line : ℕ) (a : Answer) (count : ℕ) → (numbers_of a).trades ≡ count
    → (numbers_of a).trades ≤ max_trades → at + room ≤ length out → Puts out at (answer_line line a) out' end
    → end + count * line_room numbers_per_trade ≤ length out'
trades_fit line a count e few enough p =
    let n = answer_length line a in
    let s = p.size in
    let q = p.end in
    omega (arith, e, few, enough, n, s, q)

-- a refusal has no trades
pub puts_refused : {out out' : List ℕ} {at end : ℕ} (line : ℕ) (a : Answer) (trades : List ℕ)
    → (numbers_of a).trades ≡ 0
    → Puts out at (answer_line line a) out' end
    → Puts out at (answer_line line a ++ flat_lines (numbers_of a).trades trades) out' end
unfolding flat_lines
puts_refused {out' = out'} {end = end} line a trades e p = rw e (puts_then p (puts_none out' end))

-- the answer and the trades of a command that was carried out are its lines
lines_carried : {x : Result} {r : Rules} {lent list' : List ℕ} {f' : Floor} {a : Answer} (line : ℕ)
    → Does x r lent f' list' a
    → answer_line line a ++ flat_lines (numbers_of a).trades list' ≡ command_lines line x
unfolding command_lines
lines_carried {x} {lent = lent} {list' = list'} {a = a} line h =
    let trades =
    ap (λ (n : ℕ). flat_lines n list') h.trades
    ∙ ap (flat_lines (length x.trades)) h.list
    ∙ flat_lines_lem x.trades lent in
    ap (λ (b : Answer). answer_line line b ++ flat_lines (numbers_of a).trades list') h.answer
    ∙ ap (λ (l : List ℕ). answer_line line x.answer ++ l) trades

-- what is put into the buffer is what was to be printed first
moved : (before after bytes rest whole : List ℕ) (at end : ℕ) → Puts before at bytes after end → whole ≡ bytes ++ rest
    → take end after ++ rest ≡ take at before ++ whole
moved before after bytes rest whole at end p e =
    ap (λ (l : List ℕ). l ++ rest) p.text ∙ append_assoc (take at before) bytes rest
    ∙ ap (λ (l : List ℕ). take at before ++ l) (sym e)

-- a place of a text before its end
some_left : (text : List ℕ) (at : ℕ) → at < length text → 0 < length (drop at text)
some_left text at h = let n = length-drop at text in omega (arith, n, h)

-- what is put into a buffer ends inside it
puts_inside : {before bytes after : List ℕ} {at end : ℕ} → at ≤ length before → Puts before at bytes after end
    → end ≤ length after
puts_inside {before} {bytes} {after} {at} {end} h p =
    let whole = ap length p.text in
    let two = length-append (take at before) bytes in
    let first = length-take at before in
    let all = length-take end after in
    let e = p.end in
    omega (arith, h, whole, two, first, all, e)

-- a command takes at most 9 lines
pub lines_few : {text : List ℕ} {at : ℕ} {c : Reading} → Reads text at c → c.lines ≤ 9
lines_few {text} {at} h = let few = yield_few (drop at text) in let e = h.lines in omega (arith, few, e)

-- where the commands stand after the next one
abbrev pub next_stand : Stand → Reading → ℕ → Stand
next_stand s c end = record { at = c.next; line = s.line + c.lines; filled = end }

pub command_next : (text : List ℕ) (r : Rules) (f : Floor) (s : Stand) (before after lent : List ℕ) (f' : Floor)
    (list' : List ℕ) (c : Reading) (a : Answer) (end : ℕ) → Going text r f s → s.at < length text
    → s.filled + room ≤ length before → Reads text s.at c
    → Does (carried (day_of r f) c.says c.members) r lent f' list' a
    → Puts before s.filled (answer_line s.line a ++ flat_lines (numbers_of a).trades list') after end
    → Onward text r f s before f' (next_stand s c end) after
command_next text r f s before after lent f' list' c a end g h enough reads does p =
    let few = lines_few reads in
    let forward = reads.forward h in
    let line = g.line in
    record {
      going = record {
        ready = does.ready;
        inside = forward.1;
        short = g.short;
        line = omega (arith, few, forward.0, line);
      };
      size = p.size;
      filled = puts_inside (omega (arith, enough)) p;
      forward = let e = p.end in omega (arith, e);
      whole = moved before after _ _ _ s.filled end p (ap joined next);
      fits = moved before after _ _ _ s.filled end p fits;
      past = p.past;
      count = 1;
      day =
          does.day
          ∙ ap (λ (says : Line). (carried d says c.members).day) reads.says
          ∙ ap (λ (ms : List Ticket). (carried d (yield (drop s.at text)).says ms).day) reads.members;
      rest = reads.rest;
    }
  where
    d : Day
    d = day_of r f

    d' : Day
    d' = day_of r f'

    bytes : List ℕ
    bytes = answer_line s.line a ++ flat_lines (numbers_of a).trades list'

    later : List (List ℕ)
    later = outputs_from d' (s.line + c.lines) (drop c.next text)

    -- the definition's command, by what the reader yielded
    next : outputs_from d s.line (drop s.at text) ≡ bytes ∷ later
    next =
        outputs_next d s.line (drop s.at text) (some_left text s.at h)
        ∙ rw (sym reads.says, sym reads.members, sym reads.lines, sym reads.rest)
        (sym (ap (λ (l : List ℕ). l ∷ later) (lines_carried s.line does)
        ∙ ap
        (λ (x : Day).
        command_lines s.line (carried d c.says c.members) ∷ outputs_from x (s.line + c.lines) (drop c.next text))
        does.day))

    fits : with_room (length before - s.filled) (outputs_from d s.line (drop s.at text))
        ≡ bytes ++ with_room (length after - end) later
    fits =
        let left : length before - s.filled - length bytes ≡ length after - end = omega (arith, p.end, p.size) in
        ap (with_room (length before - s.filled)) next
        ∙ with_room_next (length before - s.filled) bytes later (omega (arith, enough))
        ∙ ap (λ (n : ℕ). bytes ++ with_room n later) left

pub onward_none : (text : List ℕ) (r : Rules) (f : Floor) (s : Stand) (out : List ℕ) → Going text r f s
    → s.filled ≤ length out → Onward text r f s out f s out
onward_none text r f s out g h = record {
  going = g;
  size = refl;
  filled = h;
  forward = omega arith;
  whole = refl;
  fits = refl;
  past = refl;
  count = 0;
  day = refl;
  rest = refl;
}

pub onward_then : {text : List ℕ} {r : Rules} {f : Floor} {s : Stand} {out₀ : List ℕ} {f₁ : Floor} {s₁ : Stand}
    {out₁ : List ℕ} {f₂ : Floor} {s₂ : Stand} {out₂ : List ℕ} → Onward text r f s out₀ f₁ s₁ out₁
    → Onward text r f₁ s₁ out₁ f₂ s₂ out₂ → Onward text r f s out₀ f₂ s₂ out₂
onward_then {text} {r} {f} {s} {out₀} {f₁} {s₁} {out₁} {s₂ = s₂} a b = record {
  going = b.going;
  size = b.size ∙ a.size;
  filled = b.filled;
  forward = omega (arith, a.forward, b.forward);
  whole = b.whole ∙ a.whole;
  fits = b.fits ∙ a.fits;
  past = b.past ∙ drop_further out₁ out₀ s₁.filled s₂.filled b.forward a.past;
  count = a.count + b.count;
  day =
      b.day
      ∙ ap (λ (d : Day). carried_out b.count d (drop s₁.at text)) a.day
      ∙ ap (carried_out b.count (carried_out a.count (day_of r f) (drop s.at text))) a.rest
      ∙ sym (carried_then a.count b.count (day_of r f) (drop s.at text));
  rest =
      b.rest ∙ ap (text_after b.count) a.rest ∙ sym (text_then a.count b.count (drop s.at text));
}
