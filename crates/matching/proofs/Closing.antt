-- A gap among the first places of a list is closed by `copy_within`: each later element moves a place forward.
use Prim.Native.Nat.{ℕ, zero, suc, ◌+◌, ◌-◌, ◌≤◌, ◌<◌}
use native.Mathlib.Numerals.{add-one}
use native.Mathlib.Omega.{arith}
use mathlib.Core.Path.{◌≡◌, refl, ap, sym, ◌∙◌}
use mathlib.Core.List.{List, [], ◌∷◌, ◌++◌}
use lib.ListN.{length, take, drop, length-append, length-drop}
use lib.Seq.{length-take-le, take-take}
use Rattle.std.specs.List.{copy_within}
use Rattle.std.proofs.lemmas.List.{drop-take, take_at}
use Rattle.market.specs.Tests.{remove_at}

module _ {A : Type 0} where
  removed : (w : List A) (i : ℕ) → take i w ++ drop (suc i) w ≡ remove_at w i
  removed [] zero = refl
  removed [] (suc i) = refl
  removed (x ∷ w) zero = refl
  removed (x ∷ w) (suc i) = ap (λ (r : List A). x ∷ r) (removed w i)

  pub gap_closed : (w : List A) (n i : ℕ) → i < n → n ≤ length w
      → take (n - 1) (copy_within w (i + 1) n i) ≡ remove_at (take n w) i
  gap_closed w n i h room =
      let later = take (n - (i + 1)) (drop (i + 1) w) in
      let long : length (take i w ++ later) ≡ n - 1 =
      omega (
        arith,
        length-append (take i w) later,
        length-take-le i w (omega arith),
        length-take-le (n - (i + 1)) (drop (i + 1) w) (omega (arith, length-drop (i + 1) w)),
        length-drop (i + 1) w,
      ) in
      let rest : take (n - (i + 1)) (drop (i + 1) w) ≡ drop (i + 1) (take n w) =
      sym (drop-take (i + 1) (n - (i + 1)) w) ∙ ap (λ (k : ℕ). drop (i + 1) (take k w)) (omega arith) in
      take_at _ _ _ long
      ∙ ap (λ (r : List A). take i w ++ r) rest
      ∙ ap (λ (r : List A). r ++ drop (i + 1) (take n w)) (sym (take-take i n w (omega arith)))
      ∙ ap (λ (k : ℕ). take i (take n w) ++ drop k (take n w)) (add-one i)
      ∙ removed (take n w) i
