-- The outputs of a text without rounds: the first command's, then those of the rest; and at its end the positions. Commands
-- carried out, and then others.
use Prim.Native.Nat.{ℕ, zero, suc, ◌+◌, ◌<◌}
use native.Mathlib.Omega.{arith}
use native.Mathlib.Nat.{zero-add}
use mathlib.Core.Path.{◌≡◌, refl, ap, ◌∙◌}
use mathlib.Core.List.{List, [], ◌∷◌}
use lib.ListN.{length}
use Rattle.market.specs.Day.{Day}
use Rattle.reading.specs.Commands.{yield}
use Rattle.reading.proofs.Yields.{yield_shorter}
use Rattle.printing.specs.Lines.{position_lines}
use Rattle.commands.specs.Command.{carried}
use Rattle.commands.specs.Output.{carried_out, command_lines, outputs_by, outputs_from, text_after}

-- rounds above the text's length give the same
same_outputs : (n m : ℕ) (d : Day) (line : ℕ) (t : List ℕ) → length t < n → length t < m
    → outputs_by n d line t ≡ outputs_by m d line t
unfolding outputs_by
same_outputs zero m d line t h k = absurd (omega arith)
same_outputs (suc n) zero d line t h k = absurd (omega arith)
same_outputs (suc n) (suc m) d line [] h k = refl
same_outputs (suc n) (suc m) d line (x ∷ t) h k =
    let y = yield (x ∷ t) in
    let r = carried d y.says y.members in
    let s = yield_shorter x t in
    ap (λ (l : List (List ℕ)). command_lines line r ∷ l)
    (same_outputs n m r.day (line + y.lines) y.rest (omega (arith, s)) (omega (arith, s)))

pub outputs_next : (d : Day) (line : ℕ) (t : List ℕ) → 0 < length t
    → outputs_from d line t
    ≡ command_lines line (carried d (yield t).says (yield t).members)
    ∷ outputs_from (carried d (yield t).says (yield t).members).day (line + (yield t).lines) (yield t).rest
unfolding outputs_from outputs_by
outputs_next d line [] h = absurd (omega arith)
outputs_next d line (x ∷ t) h =
    let y = yield (x ∷ t) in
    let r = carried d y.says y.members in
    let s = yield_shorter x t in
    ap (λ (l : List (List ℕ)). command_lines line r ∷ l)
    (same_outputs (suc (length t)) (suc (length y.rest)) r.day (line + y.lines) y.rest (omega (arith, s))
    (omega arith))

pub outputs_end : (d : Day) (line : ℕ) → outputs_from d line [] ≡ position_lines d ∷ []
unfolding outputs_from outputs_by
outputs_end d line = refl

pub text_then : (n m : ℕ) (t : List ℕ) → text_after (n + m) t ≡ text_after m (text_after n t)
text_then zero m t = ap (λ (i : ℕ). text_after i t) (zero-add m)
text_then (suc n) m t =
    let next : suc n + m ≡ suc (n + m) = omega arith in
    ap (λ (i : ℕ). text_after i t) next ∙ text_then n m (yield t).rest

pub carried_then : (n m : ℕ) (d : Day) (t : List ℕ) → carried_out (n + m) d t ≡ carried_out m (carried_out n d t) (text_after n t)
carried_then zero m d t = ap (λ (i : ℕ). carried_out i d t) (zero-add m)
carried_then (suc n) m d t =
    let next : suc n + m ≡ suc (n + m) = omega arith in
    ap (λ (i : ℕ). carried_out i d t) next
    ∙ carried_then n m (carried d (yield t).says (yield t).members).day (yield t).rest
