-- A number's digits are put from the last one on: what holds between two turns of the loop.
use Prim.Native.Nat.{ℕ, zero, suc, ◌+◌, ◌-◌, ◌/◌, ◌%◌, ◌≤◌, ◌<◌}
use native.Mathlib.Omega.{arith}
use mathlib.Core.Path.{◌≡◌, refl, ap, sym, ◌∙◌}
use mathlib.Core.List.{List, [], ◌∷◌, ◌++◌, append_assoc, append-nil}
use lib.ListN.{drop, length, set, take, length-append, length-set, take-append-drop}
use lib.Seq.{drop-append_seam, drop-cons, drop-set-lt, get_or-set_same, length-take-le, take-append_seam, take-set-le, take-take}
use Rattle.printing.specs.Buffer.{Puts}
use Rattle.printing.specs.Lines.{decimal}
use Rattle.printing.proofs.Decimals.{decimal_exact, last_digits}

abbrev pub ending : ℕ → ℕ → ℕ
ending at n = at + length (decimal n)

-- the digits from place i on are put; those ahead are the last ones of `rest`
pub record Ending (before : List ℕ) (at n : ℕ) (after : List ℕ) (rest i : ℕ) : Type 0 where
  pub ahead : ℕ
  pub put : List ℕ
  pub place : i ≡ at + ahead
  pub within : i ≤ ending at n
  pub lent : ending at n ≤ length before
  pub size : length after ≡ length before
  pub front : take i after ≡ take i before
  pub back : drop i after ≡ put ++ drop (ending at n) before
  pub all : last_digits ahead rest ++ put ≡ decimal n

pub ending_starts : (l : List ℕ) (at n : ℕ) → ending at n ≤ length l → Ending l at n l n (ending at n)
ending_starts l at n h = record {
  ahead = length (decimal n);
  put = [];
  place = refl;
  within = omega arith;
  lent = h;
  size = refl;
  front = refl;
  back = refl;
  all = append-nil (last_digits (length (decimal n)) n) ∙ sym (decimal_exact n);
}

module _ {before : List ℕ} {at n : ℕ} {after : List ℕ} {rest i : ℕ} (h : Ending before at n after rest i) where
  pub ending_next : at < i → Ending before at n (set after (i - 1) (48 + rest % 10)) (rest / 10) (i - 1)
  unfolding last_digits
  ending_next l = go h.ahead h.place h.all
    where
      go : (ahead : ℕ) → i ≡ at + ahead → last_digits ahead rest ++ h.put ≡ decimal n
          → Ending before at n (set after (i - 1) (48 + rest % 10)) (rest / 10) (i - 1)
      go zero p a = absurd (omega arith)
      go (suc k) p a =
          let digit = 48 + rest % 10 in
          let same : suc (i - 1) ≡ i = omega arith in
          let inside : i - 1 < length after = omega (arith, h.within, h.lent, h.size) in
          let size : length (set after (i - 1) digit) ≡ length after = length-set after (i - 1) digit in
          record {
            ahead = k;
            put = digit ∷ h.put;
            place = omega arith;
            within = omega (arith, h.within);
            lent = h.lent;
            size = size ∙ h.size;
            front =
                take-set-le (i - 1) after (i - 1) digit (omega arith)
                ∙ sym (take-take (i - 1) i after (omega arith))
                ∙ ap (take (i - 1)) h.front
                ∙ take-take (i - 1) i before (omega arith);
            back =
                drop-cons (set after (i - 1) digit) (i - 1) 0 (omega arith)
                ∙ ap (λ (x : ℕ). x ∷ drop (suc (i - 1)) (set after (i - 1) digit)) (get_or-set_same after (i - 1) digit 0 inside)
                ∙ ap (λ (l : List ℕ). digit ∷ l) (drop-set-lt (suc (i - 1)) after (i - 1) digit (omega arith))
                ∙ ap (λ (j : ℕ). digit ∷ drop j after) same
                ∙ ap (λ (l : List ℕ). digit ∷ l) h.back;
            all = sym (append_assoc (last_digits k (rest / 10)) (digit ∷ []) h.put) ∙ a;
          }

  pub ending_ends : i ≤ at → Puts before at (decimal n) after (ending at n)
  unfolding last_digits
  ending_ends l = go h.ahead h.place h.all
    where
      go : (ahead : ℕ) → i ≡ at + ahead → last_digits ahead rest ++ h.put ≡ decimal n
          → Puts before at (decimal n) after (ending at n)
      go (suc k) p a = absurd (omega arith)
      go zero p a =
          let same : i ≡ at = omega arith in
          let head = take at before ++ decimal n in
          let long : length head ≡ ending at n =
          length-append (take at before) (decimal n)
          ∙ ap (λ (k : ℕ). k + length (decimal n)) (length-take-le at before (omega (arith, h.lent))) in
          let parts : after ≡ head ++ drop (ending at n) before =
          sym (take-append-drop i after)
          ∙ ap (λ (l : List ℕ). l ++ drop i after) h.front
          ∙ ap (λ (l : List ℕ). take i before ++ l) h.back
          ∙ ap (λ (l : List ℕ). take i before ++ (l ++ drop (ending at n) before)) a
          ∙ ap (λ (j : ℕ). take j before ++ (decimal n ++ drop (ending at n) before)) same
          ∙ sym (append_assoc (take at before) (decimal n) (drop (ending at n) before)) in
          record {
            end = refl;
            text =
                ap (λ (j : ℕ). take j after) (sym long)
                ∙ ap (take (length head)) parts
                ∙ take-append_seam head (drop (ending at n) before);
            size = h.size;
            past =
                ap (λ (j : ℕ). drop j after) (sym long)
                ∙ ap (drop (length head)) parts
                ∙ drop-append_seam head (drop (ending at n) before);
          }
