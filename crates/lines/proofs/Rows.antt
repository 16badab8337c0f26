-- Laws of the table of forms.
use Prim.Native.Nat.{ℕ, ◌≤◌}
use mathlib.Core.Path.{◌≡◌, refl}
use mathlib.Core.List.{List, [], ◌∷◌}
use mathlib.Core.Bool.{Bool, true, false, cond, not}
use lib.ListN.{length}
use borrow.Author.Tests.{leb-true}
use Rattle.market.specs.Tests.{◌and◌, ◌≤?◌, ◌=?◌, all_of}
use Rattle.market.proofs.Logic.{and_true}
use Rattle.lines.specs.Forms.{Row, is_nothing, no_row, row_in, row_of, table}

-- what holds of every row, and of none, holds of the row of a letter
row_passes : (test : Row → Bool) → test no_row ≡ true → (letter : ℕ) (rows : List Row) → all_of test rows ≡ true
    → test (row_in letter rows) ≡ true
unfolding row_in
row_passes test none letter [] h = none
row_passes test none letter (r ∷ rows) h =
    go (letter =? r.letter) (row_passes test none letter rows (and_true h).1)
  where
    go : (z : Bool) → test (row_in letter rows) ≡ true → test (cond z r (row_in letter rows)) ≡ true
    go true again = (and_true h).0
    go false again = again

pub at_most_five : (letter : ℕ) → length (row_of letter).parts ≤ 5
unfolding row_of ◌and◌
at_most_five letter =
    leb-true (length (row_of letter).parts) 5 (row_passes (λ r. length r.parts ≤? 5) refl letter table refl)

pub no_nothing : (letter : ℕ) → all_of (λ p. not (is_nothing p)) (row_of letter).parts ≡ true
unfolding row_of ◌and◌
no_nothing letter = row_passes (λ r. all_of (λ p. not (is_nothing p)) r.parts) refl letter table refl
