-- What `Prints` means to a caller: what the buffer takes is the front of what is printed, a number above 0 tells that it is
-- all, and room for one more output is enough.
use Prim.Native.Nat.{ℕ, ◌+◌, ◌-◌, ◌≤◌, ◌<◌}
use native.Mathlib.Omega.{arith}
use mathlib.Core.Path.{◌≡◌, refl, sym, ap, ◌∙◌}
use mathlib.Core.List.{List, [], ◌∷◌, ◌++◌}
use mathlib.Core.Bool.{Bool, true, false, cond}
use lib.ListN.{drop, length, take, length-append}
use lib.Seq.{take-append-add, take_at, take-length}
use borrow.Author.Tests.{eq-eqb, eqb-true}
use Rattle.market.specs.Tests.{◌=?◌, ◌≤?◌}
use Rattle.commands.specs.Output.{with_room, joined, room}
use Rattle.commands.proofs.WithRoom.{with_room_all}
use Rattle.dayfile.specs.Output.{outputs, printed}
use Rattle.dayfile.specs.Run.{Prints, taken}

pub with_room_front : (n : ℕ) (os : List (List ℕ)) → take (length (with_room n os)) (joined os) ≡ with_room n os
unfolding with_room
with_room_front n [] = refl
with_room_front n (o ∷ os) = go (room ≤? n) (with_room_front (n - length o) os)
  where
    go : (k : Bool) → take (length (with_room (n - length o) os)) (joined os) ≡ with_room (n - length o) os
        → take (length (cond k (o ++ with_room (n - length o) os) [])) (o ++ joined os)
        ≡ cond k (o ++ with_room (n - length o) os) []
    go true e =
        ap (λ (i : ℕ). take i (o ++ joined os)) (length-append o (with_room (n - length o) os))
        ∙ take-append-add o (joined os) (length (with_room (n - length o) os))
        ∙ ap (λ (l : List ℕ). o ++ l) e
    go false e = refl

module _ {text before after : List ℕ} {n : ℕ} (p : Prints text before n after) where
  abbrev bytes : List ℕ
  bytes = taken (length before) text

  pub prints_whole : 0 < n → take n after ≡ printed text
  prints_whole h = go (length bytes =? length (printed text)) refl p.number
    where
      go : (k : Bool) → (length bytes =? length (printed text)) ≡ k → n ≡ cond k (length bytes) 0
          → take n after ≡ printed text
      go false q e = absurd (omega (arith, h, e))
      go true q e =
          ap (take n) p.buffer
          ∙ take_at bytes (drop (length bytes) before) n (sym e)
          ∙ sym (with_room_front (length before) (outputs text))
          ∙ ap (λ (i : ℕ). take i (printed text)) (eqb-true (length bytes) (length (printed text)) q)
          ∙ take-length (printed text)

  pub prints_enough : length (printed text) + room ≤ length before → n ≡ length (printed text)
  prints_enough h =
      let all : bytes ≡ printed text = with_room_all (length before) (outputs text) h in
      p.number
      ∙ ap (λ (l : List ℕ). cond (length l =? length (printed text)) (length l) 0) all
      ∙ rw (eq-eqb (length (printed text)) (length (printed text)) refl)
