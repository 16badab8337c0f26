-- What is put into a buffer: nothing, one byte, and what is put behind what was put.
use Prim.Native.Nat.{ℕ, ◌+◌, ◌-◌, ◌≤◌, ◌<◌}
use native.Mathlib.Numerals.{add-one}
use native.Mathlib.Omega.{arith}
use mathlib.Core.Path.{◌≡◌, refl, ap, sym, ◌∙◌}
use mathlib.Core.List.{List, [], ◌∷◌, ◌++◌, append_assoc, append-nil}
use lib.ListN.{drop, length, set, take, length-append, length-drop, length-set}
use lib.Seq.{drop-drop, drop-set-lt, length-take-le, take-suc-set}
use borrow.Rule.Slice.PartMut.{put_mid}
use Rattle.std.proofs.lemmas.Slice.{drop-put_mid, take-put_mid}
use Rattle.printing.specs.Buffer.{Puts}

-- lists that are the same from place m on are so from a later place on
pub drop_further : (b a : List ℕ) (m r : ℕ) → m ≤ r → drop m b ≡ drop m a → drop r b ≡ drop r a
drop_further b a m r h e =
    let split : m + (r - m) ≡ r = omega arith in
    let from : (l : List ℕ) → drop r l ≡ drop (r - m) (drop m l) =
    λ (l : List ℕ). sym (drop-drop (r - m) m l ∙ ap (λ (n : ℕ). drop n l) split) in
    from b ∙ ap (drop (r - m)) e ∙ sym (from a)

pub puts_none : (l : List ℕ) (at : ℕ) → Puts l at [] l at
puts_none l at = record { end = omega arith; text = sym (append-nil (take at l)); size = refl; past = refl }

pub puts_byte : (l : List ℕ) (at byte : ℕ) → at < length l → Puts l at (byte ∷ []) (set l at byte) (at + 1)
puts_byte l at byte h = record {
  end = refl;
  text = rw add-one (take-suc-set l at byte h);
  size = length-set l at byte;
  past = drop-set-lt (at + 1) l at byte (omega arith);
}

-- bytes are copied over the part that they fill
pub puts_part : (l : List ℕ) (at : ℕ) (bytes written : List ℕ) → at + length bytes ≤ length l → written ≡ bytes
    → Puts l at bytes (put_mid at (at + length bytes - at) l written) (at + length bytes)
puts_part l at bytes written h e =
    rw e (record {
      end = refl;
      text = take-put_mid at _ l bytes _ refl (omega arith);
      size = omega (arith, length-append {A = ℕ}, length-drop {A = ℕ}, length-take-le at l (omega arith));
      past = drop-put_mid at _ l bytes _ (omega arith) (omega arith) (omega arith);
    })

pub puts_then : {a b c x y : List ℕ} {at m r : ℕ} → Puts a at x b m → Puts b m y c r → Puts a at (x ++ y) c r
puts_then {a} {b} {x = x} {y = y} {at = at} {m = m} {r = r} p q = record {
  end = omega (arith, length-append x y);
  text = q.text ∙ ap (λ (l : List ℕ). l ++ y) p.text ∙ append_assoc (take at a) x y;
  size = q.size ∙ p.size;
  past = q.past ∙ drop_further b a m r (omega arith) p.past;
}
