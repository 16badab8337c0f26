-- Laws of a number that is read digit by digit.
use Prim.Native.Nat.{ℕ, ◌+◌, ◌*◌, ◌-◌, ◌^◌, ◌≤◌, ◌<◌}
use native.Mathlib.Nat.{pow-le-pow_right}
use native.Mathlib.Omega.{arith}
use native.Mathlib.Numerals.{add-one}
use mathlib.Core.Path.{◌≡◌, refl, sym, ◌∙◌}
use mathlib.Core.List.{List, [], ◌∷◌}
use mathlib.Core.Bool.{Bool, true, false, cond}
use lib.ListN.{drop, drop_of_length-le, get_or, length}
use lib.Seq.{drop-cons}
use borrow.Author.Tests.{le-leb, ne_eqb}
use Rattle.market.specs.Tests.{◌and◌, all_of}
use Rattle.market.proofs.Logic.{and_true, both, within_high, within_low}
use Rattle.lines.specs.declared.Part.TheVariants.{Number}
use Rattle.std.specs.Prelude.{Some, None}
use Rattle.lines.specs.Line.{value}
use Rattle.lines.specs.Text.{is_digit, is_number, no_leading_zero, value_from, value_of}

-- what makes a field a number
pub record IsNumber (field : List ℕ) : Type 0 where
  pub low : 1 ≤ length field
  pub high : length field ≤ 16
  pub digits : all_of is_digit field ≡ true
  pub leading : no_leading_zero field ≡ true

is_number_lem : (field : List ℕ) → is_number field ≡ true → IsNumber field
unfolding is_number
is_number_lem field e =
    let size = (and_true e).0 in
    let rest = and_true (and_true e).1 in record {
      low = within_low 1 16 (length field) size;
      high = within_high 1 16 (length field) size;
      digits = rest.0;
      leading = rest.1;
    }

pub not_number : (field : List ℕ) → (IsNumber field → ⊥) → None ≡ value Number field
unfolding value
not_number field h = go (is_number field) refl
  where
    go : (z : Bool) → is_number field ≡ z → None ≡ cond z (Some (value_of field)) None
    go true e = absurd (h (is_number_lem field e))
    go false e = refl

number : (field : List ℕ) → IsNumber field → Some (value_of field) ≡ value Number field
unfolding value is_number
number field n =
    let size = both (le-leb 1 (length field) n.low) (le-leb (length field) 16 n.high) in
    rw (both size (both n.digits n.leading))

pub leading_zero : (field : List ℕ) → 1 < length field → get_or field 0 0 ≡ 48 → no_leading_zero field ≡ false
leading_zero [] h e = absurd (omega arith)
leading_zero (x ∷ []) h e = absurd (omega arith)
leading_zero (x ∷ y ∷ t) h e = rw e

pub one_digit : (field : List ℕ) → length field ≤ 1 → no_leading_zero field ≡ true
one_digit [] h = refl
one_digit (x ∷ []) h = refl
one_digit (x ∷ y ∷ t) h = absurd (omega arith)

pub other_digit : (field : List ℕ) → (get_or field 0 0 ≡ 48 → ⊥) → no_leading_zero field ≡ true
other_digit [] h = refl
other_digit (x ∷ []) h = refl
other_digit (x ∷ y ∷ t) h = rw (ne_eqb x 48 h)

-- the digits before place i make up v
pub record Read (field : List ℕ) (v i : ℕ) : Type 0 where
  pub inside : i ≤ length field
  pub small : v < 10 ^ i
  pub same : value_from v (drop i field) ≡ value_of field
  pub digits : all_of is_digit (drop i field) ≡ all_of is_digit field

pub read_none : (field : List ℕ) → Read field 0 0
unfolding value_of
read_none field = record { inside = omega arith; small = omega arith; same = refl; digits = refl }

module _ {field : List ℕ} {v i : ℕ} (r : Read field v i) (more : i < length field) where
  here : drop i field ≡ get_or field i 0 ∷ drop (i + 1) field
  here = rw (add-one, drop-cons field i 0)

  -- the digits of i places, fewer than 16
  pub few : length field ≤ 16 → v < 10 ^ 15
  few h =
      let most = pow-le-pow_right {n = 10} (omega arith) {i = i} {j = 15} (omega arith) in
      omega (arith, r.small)

  pub no_digit : (is_digit (get_or field i 0) ≡ true → ⊥) → None ≡ value Number field
  no_digit h =
      not_number field (λ n.
      let all : all_of is_digit (drop i field) ≡ true = r.digits ∙ n.digits in
      h (and_true (rw here at all)).0)

  pub read_next : 48 ≤ get_or field i 0 → get_or field i 0 ≤ 57 → Read field (v * 10 + (get_or field i 0 - 48)) (i + 1)
  unfolding value_from ◌and◌
  read_next low high =
      let x = get_or field i 0 in
      let digit : is_digit x ≡ true = both (le-leb 48 x low) (le-leb x 57 high) in record {
        inside = omega arith;
        small = rw add-one (omega (arith, r.small));
        same = sym (rw here) ∙ r.same;
        digits = sym (rw (here, digit)) ∙ r.digits;
      }

pub read_all : {field : List ℕ} {v i : ℕ} → Read field v i → length field ≤ i
    → 1 ≤ length field → length field ≤ 16 → no_leading_zero field ≡ true → Some v ≡ value Number field
unfolding value_from
read_all {field} {v} {i} r h low high leading =
    let none = drop_of_length-le field {i = i} h in
    let same : v ≡ value_of field = rw none at r.same in
    let digits : true ≡ all_of is_digit field = rw none at r.digits in
    let all : IsNumber field = record { low = low; high = high; digits = sym digits; leading = leading } in
    rw same (number field all)

-- what `lines::number` goes by
pub ruleset digits = (not_number, few, read_none, no_digit, read_next, read_all, one_digit, other_digit, leading_zero)
