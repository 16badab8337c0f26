-- How far outputs fit into a buffer.
use Prim.Native.Nat.{ℕ, ◌+◌, ◌-◌, ◌≤◌, ◌<◌}
use native.Mathlib.Omega.{arith}
use mathlib.Core.Path.{◌≡◌, refl, ap, ◌∙◌}
use mathlib.Core.List.{List, [], ◌∷◌, ◌++◌}
use lib.ListN.{length, length-append}
use borrow.Author.Tests.{le-leb, lt-leb}
use Rattle.commands.specs.Output.{with_room, joined, room}

-- the first one, with room for it
pub with_room_next : (n : ℕ) (o : List ℕ) (os : List (List ℕ)) → room ≤ n
    → with_room n (o ∷ os) ≡ o ++ with_room (n - length o) os
unfolding with_room
with_room_next n o os h = rw (le-leb room n h)

-- none, without
pub with_room_none : (n : ℕ) (os : List (List ℕ)) → n < room → with_room n os ≡ []
unfolding with_room
with_room_none n [] h = refl
with_room_none n (o ∷ os) h = rw (lt-leb room n h)

pub with_room_end : (n : ℕ) → with_room n [] ≡ []
unfolding with_room
with_room_end n = refl

-- all, where there is room behind them
pub with_room_all : (n : ℕ) (os : List (List ℕ)) → length (joined os) + room ≤ n → with_room n os ≡ joined os
with_room_all n [] h = with_room_end n
with_room_all n (o ∷ os) h =
    let two = length-append o (joined os) in
    with_room_next n o os (omega (arith, h, two))
    ∙ ap (λ (l : List ℕ). o ++ l) (with_room_all (n - length o) os (omega (arith, h, two)))
