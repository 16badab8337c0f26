-- An element leaves an array's first places, and each later one of them moves a place forward.
use Prim.Native.Nat.{ℕ, zero, suc, ◌+◌, ◌-◌, ◌≤◌, ◌<◌}
use native.Mathlib.Numerals.{add-one}
use native.Mathlib.Omega.{arith}
use mathlib.Core.Path.{◌≡◌, refl, sym, ap, ◌∙◌}
use mathlib.Core.List.{List, [], ◌∷◌, ◌++◌}
use lib.ListN.{length, take, drop, length-drop}
use Rattle.std.specs.List.{copy_within, remove}
use Rattle.std.proofs.lemmas.List.{drop-take, take-take}
use Rattle.std.proofs.lemmas.List.Edits.{length-paste, take-paste}
use Rattle.market.specs.Tests.{remove_at}
use Rattle.market.specs.View.{first_of}
use Rattle.market.proofs.View.{cut_take}

module _ {A : Type 0} where
  remove_is : (l : List A) (i : ℕ) → remove_at l i ≡ remove l i
  remove_is [] zero = refl
  remove_is [] (suc i) = refl
  remove_is (x ∷ l) zero = refl
  remove_is (x ∷ l) (suc i) = ap (λ (r : List A). x ∷ r) (remove_is l i)

  -- of the first n
  remove_first : (l : List A) (at n : ℕ) → at < n → remove_at (take n l) at ≡ take at l ++ take (n - (at + 1)) (drop (at + 1) l)
  remove_first l at n h =
      let all : n ≡ at + 1 + (n - (at + 1)) = omega arith in
      remove_is (take n l) at
      ∙ ap (λ (r : List A). r ++ drop (suc at) (take n l)) (take-take at n l (omega arith))
      ∙ ap (λ (j : ℕ). take at l ++ drop j (take n l)) (sym (add-one at))
      ∙ ap (λ (j : ℕ). take at l ++ drop (at + 1) (take j l)) all
      ∙ ap (λ (r : List A). take at l ++ r) (drop-take (at + 1) (n - (at + 1)) l)

  pub gap_closed : (blank : A) (l : List A) (at n : ℕ) → at < n → n ≤ length l
      → first_of blank (n - 1) (copy_within l (at + 1) n at) ≡ remove_at (first_of blank n l) at
  gap_closed blank l at n h room =
      let moved = copy_within l (at + 1) n at in
      let behind : n - (at + 1) ≤ length (drop (at + 1) l) = omega (arith, length-drop (at + 1) l) in
      let long : length moved ≡ length l = length-paste l at (drop (at + 1) l) (n - (at + 1)) (omega arith) behind in
      cut_take blank (n - 1) moved (omega arith)
      ∙ ap (λ (j : ℕ). take j moved) (omega arith)
      ∙ take-paste l at (drop (at + 1) l) (n - (at + 1)) (omega arith) behind
      ∙ sym (remove_first l at n h)
      ∙ ap (λ (r : List A). remove_at r at) (sym (cut_take blank n l room))
