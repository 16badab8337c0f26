-- Laws of the fields of a line: what is left of a line decides as all of it.
use Prim.Native.Nat.{ℕ, zero, suc, ◌+◌, ◌≤◌, ◌<◌}
use native.Mathlib.Nat.{add-zero}
use native.Mathlib.Omega.{arith}
use native.Mathlib.Numerals.{add-one}
use mathlib.Core.Path.{◌≡◌, refl, sym, ◌∙◌}
use mathlib.Core.List.{List, [], ◌∷◌}
use mathlib.Core.Bool.{Bool, true, false, cond, not}
use lib.ListN.{get_or-eq_default, drop, drop_of_length-le, get_or, length, set}
use lib.Seq.{drop-cons, drop-drop, get_or-drop}
use lib.Dec.{ltb}
use borrow.Author.Tests.{ltb-false, ltb-true, ne_eqb, not-true}
use Rattle.lines.specs.Finding.{index_of, slice}
use Rattle.market.specs.Tests.{all_of}
use Rattle.market.proofs.Logic.{and_true}
use Rattle.lines.specs.declared.Part.{Part}
use Rattle.lines.specs.declared.Part.TheVariants.{Force, Nothing, Number, Side as SideLetter}
use Rattle.std.specs.Prelude.{Some, None}
use Rattle.std.specs.declared.option.Option.{Option}
use Rattle.lines.specs.Text.{comma, starting_at, up_to}
use Rattle.lines.specs.Forms.{is_nothing, row_of}
use Rattle.lines.specs.Line.{Values, no_values, value, values_from}
use Rattle.lines.proofs.Finding.{between, found_field, found_rest}
use Rattle.lines.proofs.Rows.{at_most_five, no_nothing}

-- one step of the values of the parts that are left
other_byte : (parts : List Part) (i x : ℕ) (values text : List ℕ) → (x ≡ comma → ⊥)
    → values_from parts i values (x ∷ text) ≡ None
unfolding values_from
other_byte [] i x values text h = refl
other_byte (p ∷ parts) i x values text h = rw (ne_eqb x comma h)

wrong_value : (parts : List Part) (i : ℕ) (values text : List ℕ)
    → value (get_or parts 0 Nothing) (up_to comma text) ≡ None
    → values_from parts i values (comma ∷ text) ≡ None
unfolding values_from
wrong_value [] i values text e = refl
wrong_value (p ∷ parts) i values text e = rw e

good_value : (parts : List Part) (i v : ℕ) (values text : List ℕ)
    → value (get_or parts 0 Nothing) (up_to comma text) ≡ Some v
    → values_from parts i values (comma ∷ text)
    ≡ values_from (drop 1 parts) (suc i) (set values i v) (starting_at comma text)
unfolding values_from value
good_value [] i v values text e = absurd (let z : ◌≡◌ {A = ℕ} 0 1 = cc in omega arith)
good_value (p ∷ parts) i v values text e = rw e

-- at the end of a line the values are whole where nothing more is to come
text_ends : (parts : List Part) (k i : ℕ) (values : List ℕ) → all_of (λ p. not (is_nothing p)) parts ≡ true
    → cond (is_nothing (get_or parts k Nothing)) (Some values) None ≡ values_from (drop k parts) i values []
unfolding values_from
text_ends [] zero i values h = refl
text_ends [] (suc k) i values h = refl
text_ends (p ∷ parts) zero i values h = rw (not-true (is_nothing p) (and_true h).0)
text_ends (p ∷ parts) (suc k) i values h = text_ends parts k i values (and_true h).1

some_part : (p : Part) → (p ≡ Nothing → ⊥) → is_nothing p ≡ false
some_part Number h = refl
some_part SideLetter h = refl
some_part Force h = refl
some_part Nothing h = absurd (h refl)

-- what field i after a letter holds
abbrev pub part_at : ℕ → ℕ → Part
part_at letter i = get_or (row_of letter).parts i Nothing

-- a part with a value is one of at most 5
pub has_index : (letter i v : ℕ) (field : List ℕ) → Some v ≡ value (part_at letter i) field → i < 5
unfolding value
has_index letter i v field e = go (ltb i (length (row_of letter).parts)) refl
  where
    go : (z : Bool) → ltb i (length (row_of letter).parts) ≡ z → i < 5
    go true h = omega (arith, ltb-true i (length (row_of letter).parts) h, at_most_five letter)
    go false h =
        let parts = (row_of letter).parts in
        let past = get_or-eq_default parts Nothing {n = i} (ltb-false i (length parts) h) in
        let wrong : Some v ≡ None = rw past at e in
        absurd (let z : ◌≡◌ {A = ℕ} 0 1 = cc in omega arith)

-- what a line's fields are to give
abbrev pub all : ℕ → List ℕ → Values
all letter line = values_from (row_of letter).parts 0 no_values (drop 1 line)

-- before byte `at` stand i fields, with these values
pub record Left (letter : ℕ) (line values : List ℕ) (i at : ℕ) : Type 0 where
  pub inside : at ≤ length line
  pub same : values_from (drop i (row_of letter).parts) i values (drop at line) ≡ all letter line

module _ {letter : ℕ} {line values : List ℕ} {i at : ℕ} (left : Left letter line values i at) where
  abbrev parts : List Part
  parts = (row_of letter).parts

  at_end : length line ≤ at → cond (is_nothing (part_at letter i)) (Some values) None ≡ all letter line
  at_end h = text_ends parts i i values (no_nothing letter) ∙ rw (drop_of_length-le line {i = at} h) at left.same

  pub ended : length line ≤ at → part_at letter i ≡ Nothing → Some values ≡ all letter line
  ended h e = rw e at (at_end h)

  pub part_left : length line ≤ at → (part_at letter i ≡ Nothing → ⊥) → None ≡ all letter line
  part_left h some = rw (some_part (part_at letter i) some) at (at_end h)

  module _ (more : at < length line) where
    here : drop at line ≡ get_or line at 0 ∷ drop (at + 1) line
    here = rw (add-one, drop-cons line at 0)

    pub not_comma : (get_or line at 0 ≡ comma → ⊥) → None ≡ all letter line
    not_comma h =
        sym (other_byte (drop i parts) i (get_or line at 0) values (drop (at + 1) line) h) ∙ rw here at left.same

    -- a comma at `at`, and the next one, or the end of the line, at `end`
    module _ (found : get_or line at 0 ≡ comma) (end : ℕ)
        (next : end ≡ at + 1 + index_of comma (slice (at + 1) (length line) line)) where
      at_comma : values_from (drop i parts) i values (comma ∷ drop (at + 1) line) ≡ all letter line
      at_comma = rw (here, found) at left.same

      of_field : (r : Option ℕ) → r ≡ value (part_at letter i) (between (at + 1) end line)
          → value (get_or (drop i parts) 0 Nothing) (up_to comma (drop (at + 1) line)) ≡ r
      of_field r e =
          rw (get_or-drop i parts 0 Nothing, add-zero, ← found_field comma (at + 1) end line next) (sym e)

      pub wrong_field : None ≡ value (part_at letter i) (between (at + 1) end line)
          → None ≡ all letter line
      wrong_field e = sym (wrong_value (drop i parts) i values (drop (at + 1) line) (of_field None e)) ∙ at_comma

      pub good_field : (v : ℕ) → Some v ≡ value (part_at letter i) (between (at + 1) end line)
          → end ≤ length line → Left letter line (set values i v) (i + 1) end
      good_field v e h = record {
        inside = h;
        same =
            rw (← drop-drop, found_rest comma (at + 1) end line next, add-one i)
            (sym (good_value (drop i parts) i v values (drop (at + 1) line) (of_field (Some v) e)) ∙ at_comma);
      }

-- what `lines::field_values` goes by
pub ruleset field_steps = (ended, good_field, has_index, not_comma, part_left, wrong_field)
