-- A line's fields one after another, and its length.
use Prim.Native.Nat.{ℕ, ◌+◌, ◌*◌, ◌≤◌, ◌<◌}
use native.Mathlib.Numerals.{add-one}
use native.Mathlib.Omega.{arith}
use mathlib.Core.Path.{◌≡◌, refl, ap, sym, ◌∙◌}
use mathlib.Core.List.{List, [], ◌∷◌, ◌++◌, append_assoc, append-nil}
use lib.ListN.{get_or, length, take, length-append}
use lib.Seq.{length-take-le, take-suc}
use Rattle.market.specs.declared.Answer.{Answer}
use Rattle.printing.specs.Buffer.{line_room, worded_room}
use Rattle.printing.specs.Lines.{answer_line, comma, decimal, line_end}
use Rattle.printing.specs.Lines.{number_fields, printed_line, worded_line}
use Rattle.printing.proofs.Decimals.{decimal_length}

pub fields_length : (ns : List ℕ) → length (number_fields ns) ≤ 21 * length ns
unfolding number_fields
fields_length [] = omega arith
fields_length (n ∷ ns) =
    omega (arith, length-append (decimal n) (number_fields ns), decimal_length n, fields_length ns)

pub worded_length : (word ns : List ℕ) → length (worded_line word ns) ≤ worded_room (length word) (length ns)
unfolding worded_line
worded_length word ns =
    simp length-append (omega (arith, fields_length ns))

pub line_length : (letter : ℕ) (ns : List ℕ) → length (printed_line letter ns) ≤ line_room (length ns)
unfolding printed_line
line_length letter ns = omega (arith, length-append (number_fields ns) (line_end ∷ []), fields_length ns)

pub answer_length : (line : ℕ) (a : Answer) → length (answer_line line a) ≤ line_room 7
unfolding answer_line
answer_length line a = line_length _ _

fields_append : (ns ms : List ℕ) → number_fields (ns ++ ms) ≡ number_fields ns ++ number_fields ms
unfolding number_fields
fields_append [] ms = refl
fields_append (n ∷ ns) ms =
    ap (λ (l : List ℕ). comma ∷ (decimal n ++ l)) (fields_append ns ms)
    ∙ sym (ap (λ (l : List ℕ). comma ∷ l) (append_assoc (decimal n) (number_fields ns) (number_fields ms)))

-- the first fields' length
pub fields_room : (ns : List ℕ) (i : ℕ) → i ≤ length ns → length (number_fields (take i ns)) ≤ 21 * i
fields_room ns i h = omega (arith, fields_length (take i ns), length-take-le i ns h)

-- one field more
pub fields_next : (ns : List ℕ) (i : ℕ) → i < length ns
    → number_fields (take (i + 1) ns) ≡ number_fields (take i ns) ++ (comma ∷ decimal (get_or ns i 0))
unfolding number_fields
fields_next ns i h =
    rw (add-one, take-suc ns i 0) (fields_append (take i ns) (get_or ns i 0 ∷ []) ∙ simp append-nil)
