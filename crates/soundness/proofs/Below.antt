-- What holds of the first n elements of an array, as a test of each number below n.
use Rattle.std.proofs.Common.{[], ◌∷◌, ◌≡◌, ℕ, zero, suc, ◌≤◌, ◌&&◌, List, Bool, true, false, get_or, length, take, refl, ap, ◌∙◌, add-one, arith}
use Rattle.std.specs.List.{list_all, zip}
use Rattle.std.proofs.lemmas.List.Folds.{list_all_more}
use Rattle.std.proofs.lemmas.Slice.Zip.{get_or-zip, length-zip}
use Rattle.market.specs.Tests.{◌and◌, ◌≤?◌, all_below}
use Rattle.market.proofs.Logic.{below_same}

turned : (a b : Bool) → (a && b) ≡ b and a
unfolding ◌and◌
turned true true = refl
turned true false = refl
turned false true = refl
turned false false = refl

pub all_first : {A : Type 0} (f : A → Bool) (blank : A) (l : List A) (n : ℕ) → n ≤ length l
    → list_all f (take n l) ≡ all_below n (λ i. f (get_or l i blank))
all_first f blank l zero h = refl
all_first f blank l (suc n) h =
    let before = all_first f blank l n (omega arith) in
    let more : list_all f (take (suc n) l) ≡ (list_all f (take n l) && f (get_or l n blank)) =
    rw add-one at (list_all_more f l n blank (omega arith)) in
    more ∙ turned _ _ ∙ ap (λ b. f (get_or l n blank) and b) before

-- so of two arrays side by side
abbrev in_order : ℕ × ℕ → Bool
in_order pair = pair.0 ≤? pair.1

zip_take : (a b : List ℕ) (n : ℕ) → zip (take n a) (take n b) ≡ take n (zip a b)
zip_take a b zero = refl
zip_take [] b (suc n) = refl
zip_take (x ∷ a) [] (suc n) = refl
zip_take (x ∷ a) (y ∷ b) (suc n) = ap (λ l. (x, y) ∷ l) (zip_take a b n)

pub pairs_first : (a b : List ℕ) (n : ℕ) → n ≤ length a → n ≤ length b
    → list_all in_order (zip (take n a) (take n b)) ≡ all_below n (λ i. get_or a i 0 ≤? get_or b i 0)
pairs_first a b n h k =
    ap (list_all in_order) (zip_take a b n)
    ∙ all_first in_order (0, 0) (zip a b) n (omega (arith, length-zip a b))
    ∙ below_same n _ _ (λ i l. ap in_order (get_or-zip a b i (0, 0) (omega arith) (omega arith)))
