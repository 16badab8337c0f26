-- The first line of a text and the text after it, by the index of the byte that ends it.
use Prim.Native.Nat.{ℕ, zero, suc, ◌+◌, ◌≤◌, ◌<◌}
use native.Mathlib.Numerals.{add-one}
use native.Mathlib.Omega.{arith}
use mathlib.Core.Path.{◌≡◌, refl, ap, sym, ◌∙◌}
use mathlib.Core.List.{List, [], ◌∷◌}
use lib.ListN.{drop, drop_of_length-le, length}
use Rattle.lines.specs.Finding.{index_of, slice}
use Rattle.lines.specs.declared.Line.{Line}
use Rattle.lines.specs.Line.{line_says}
use Rattle.lines.proofs.Finding.{between, found_field, found_rest}
use Rattle.reading.specs.Commands.{ReadsLine, after_line, behind, first_line, line_end}

behind_drop : (n : ℕ) (t : List ℕ) → behind (drop n t) ≡ drop (suc n) t
unfolding behind
behind_drop zero [] = refl
behind_drop (suc n) [] = refl
behind_drop zero (x ∷ t) = refl
behind_drop (suc n) (x ∷ t) = behind_drop n t

-- a line's end e, and what is said there
module _ (text : List ℕ) (at e : ℕ) (says : Line)
    (found : e ≡ at + index_of line_end (slice at (length text) text))
    (is : says ≡ line_says (between at e text)) where
  said : says ≡ line_says (first_line (drop at text))
  unfolding first_line
  said = is ∙ ap line_says (found_field line_end at e text found)

  -- where the line's end is the text's, no byte follows either
  rest : after_line (drop at text) ≡ drop (suc e) text
  unfolding after_line
  rest = ap behind (sym (found_rest line_end at e text found)) ∙ behind_drop e text

  pub ended : e < length text → ReadsLine text at says (e + 1)
  ended h = record {
    said = said;
    rest = rw add-one (sym rest);
    inside = omega arith;
    forward = λ some. omega (arith, found);
  }

  pub endless : e ≤ length text → length text ≤ e → ReadsLine text at says e
  endless low high = record {
    said = said;
    rest = drop_of_length-le text high ∙ sym (rest ∙ drop_of_length-le text {i = suc e} (omega arith));
    inside = low;
    forward = λ some. omega (arith, found);
  }
