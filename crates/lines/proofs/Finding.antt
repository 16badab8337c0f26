-- What `find` finds: byte by byte, and from a start to the end of a text, where the bytes before the first b end.
use Prim.Native.Nat.{ℕ, suc, ◌+◌, ◌-◌, ◌≤◌, ◌<◌}
use native.Mathlib.Numerals.{add-one}
use native.Mathlib.Omega.{arith}
use mathlib.Core.Path.{◌≡◌, ap, refl}
use mathlib.Core.List.{List, [], ◌∷◌}
use mathlib.Core.Bool.{Bool, true, false, cond}
use lib.ListN.{drop, drop_of_length-le, get_or, length, take}
use lib.Seq.{drop-cons, drop-drop, take-length}
use Rattle.std.proofs.lemmas.List.{get_or-take, length-take-le}
use borrow.Author.Tests.{ne_eqb}
use lib.Dec.{eqb}
use Rattle.std.proofs.Common.{eq-eqb}
use Rattle.lines.specs.Finding.{index_after, index_of, slice}
use Rattle.lines.specs.Text.{starting_at, up_to}

up_to_lem : (b : ℕ) (l : List ℕ) → up_to b l ≡ take (index_of b l) l
unfolding up_to index_of
up_to_lem b [] = refl
up_to_lem b (x ∷ l) = go (eqb x b) (up_to_lem b l)
  where
    go : (z : Bool) → up_to b l ≡ take (index_of b l) l
        → cond z [] (x ∷ up_to b l) ≡ take (index_after z (index_of b l)) (x ∷ l)
    go true again = refl
    go false again = ap (λ (t : List ℕ). x ∷ t) again

starting_at_lem : (b : ℕ) (l : List ℕ) → starting_at b l ≡ drop (index_of b l) l
unfolding starting_at index_of
starting_at_lem b [] = refl
starting_at_lem b (x ∷ l) = go (eqb x b) (starting_at_lem b l)
  where
    go : (z : Bool) → starting_at b l ≡ drop (index_of b l) l
        → cond z (x ∷ l) (starting_at b l) ≡ drop (index_after z (index_of b l)) (x ∷ l)
    go true again = refl
    go false again = again

-- the bytes of a text from start to end
abbrev pub between : ℕ → ℕ → List ℕ → List ℕ
between start end text = take (end - start) (drop start text)

module _ (b start end : ℕ) (text : List ℕ) (found : end ≡ start + index_of b (slice start (length text) text)) where
  rest : slice start (length text) text ≡ drop start text
  rest = rw take-length

  pub found_field : between start end text ≡ up_to b (drop start text)
  found_field =
      let same = ap (index_of b) rest in
      let size : end - start ≡ index_of b (drop start text) = omega arith in
      rw (size, up_to_lem b (drop start text))

  pub found_rest : drop end text ≡ starting_at b (drop start text)
  found_rest = rw (found, rest, starting_at_lem b (drop start text), drop-drop)

-- the bytes of a text in i..to, one by one
module _ (b i to : ℕ) (text : List ℕ) (low : i < to) (high : to ≤ length text) where
  here : slice i to text ≡ get_or text i 0 ∷ slice (i + 1) to text
  here =
      let size = length-take-le to text high in
      rw (add-one, drop-cons (take to text) i 0 (omega (arith, size)), get_or-take to text i 0 low)

  pub found_here : get_or text i 0 ≡ b → index_of b (slice i to text) ≡ 0
  unfolding index_of
  found_here e = rw (here, eq-eqb (get_or text i 0) b e)

  pub found_later : (get_or text i 0 ≡ b → ⊥) → index_of b (slice i to text) ≡ suc (index_of b (slice (i + 1) to text))
  unfolding index_of
  found_later h = rw (here, ne_eqb (get_or text i 0) b h)

pub found_nowhere : (b i to : ℕ) (text : List ℕ) → to ≤ i → to ≤ length text → index_of b (slice i to text) ≡ 0
unfolding index_of
found_nowhere b i to text low high =
    let size = length-take-le to text high in
    rw (drop_of_length-le (take to text) {i = i} (omega (arith, size)))

-- what `lines::find` goes by
pub ruleset first_places = (found_here, found_later, found_nowhere)
