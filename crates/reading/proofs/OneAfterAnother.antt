-- "A line reader made over the lent text yields one command after another": called n times, each time on the reader that
-- the call before yielded, it yields the first n commands of the text.
use Prim.Native.Nat.{ℕ}
use native.Mathlib.Omega.{arith}
use mathlib.Core.Path.{◌≡◌, refl, ap, ◌∙◌}
use mathlib.Core.List.{List, [], ◌∷◌, map}
use lib.ListN.{drop, length}
use denote.Ref.{Bor}
use Rattle.reading.specs.declared.Reader.{Reader}
use Rattle.reading.specs.declared.Yielded.{Yielded}
use Rattle.reading.specs.Commands.{InTurn, Next, Yield, answered, first_commands, left, yield}

answered_is : (r : Reader) (y : Yielded) → Next r y → answered y ≡ yield (left r)
answered_is r y h = λ i. record {
  says = h.reads.says i;
  members = h.reads.members i;
  lines = h.reads.lines i;
  rest = rest i;
}
  where
    rest : left y.reader ≡ (yield (left r)).rest
    rest =
        ap (λ (n : ℕ). drop n y.reader.text.now) h.at
        ∙ ap (λ (s : Bor (List ℕ)). drop y.reading.next s.now) h.text
        ∙ h.reads.rest

yields_from : (ys : List Yielded) (r : Reader) (t : List ℕ) → left r ≡ t → InTurn r ys
    → map answered ys ≡ first_commands (length ys) t
unfolding first_commands
yields_from [] r t e c = refl
yields_from (y ∷ ys) r [] e c = absurd (let none = ap length e in omega (arith, c.0, none))
yields_from (y ∷ ys) r (x ∷ t) e c =
    let here : answered y ≡ yield (x ∷ t) = answered_is r y c.1 ∙ ap yield e in
    let later = yields_from ys y.reader (yield (x ∷ t)).rest (ap (λ (z : Yield). z.rest) here) c.2 in
    λ i. here i ∷ later i

pub yields_first : (r : Reader) (ys : List Yielded) → InTurn r ys → map answered ys ≡ first_commands (length ys) (left r)
yields_first r ys = yields_from ys r (left r) refl
