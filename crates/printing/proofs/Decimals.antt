-- A number in decimal: how many digits it has, and that it is as many of its last digits.
use Prim.Native.Nat.{ℕ, zero, suc, max, ◌+◌, ◌*◌, ◌/◌, ◌%◌, ◌^◌, ◌≤◌, ◌<◌}
use native.Mathlib.Nat.{div-lt_iff_lt-mul, le-div_iff_mul-le, mod-eq_of_lt, pow-le-pow_right, pow-suc}
use native.Mathlib.Omega.{arith}
use mathlib.Core.Path.{◌≡◌, refl, ap, ◌∙◌, sym}
use mathlib.Core.Bool.{Bool, true, false, cond}
use mathlib.Core.List.{List, [], ◌∷◌, ◌++◌}
use lib.ListN.{length, length-append}
use borrow.Author.Tests.{ltb-true, ltb-false, lt-ltb}
use Rattle.market.specs.Tests.{◌<?◌}
use Rattle.printing.specs.Lines.{decimal, decimal_by}

-- the last k digits of a number
unfoldable pub last_digits : ℕ → ℕ → List ℕ
last_digits zero n = []
last_digits (suc k) n = last_digits k (n / 10) ++ ((48 + n % 10) ∷ [])

-- the digits of a number, by whether it is below 10
abbrev By : ℕ → ℕ → Bool → List ℕ
By k n b = cond b ((48 + n) ∷ []) (decimal_by k (n / 10) ++ ((48 + n % 10) ∷ []))

one_more : (k n : ℕ) → length (By k n false) ≡ suc (length (decimal_by k (n / 10)))
one_more k n = omega (arith, length-append (decimal_by k (n / 10)) ((48 + n % 10) ∷ []))

by_length : (k n : ℕ) → length (decimal_by k n) ≤ k
unfolding decimal_by
by_length zero n = omega arith
by_length (suc k) n = go (n <? 10) (by_length k (n / 10))
  where
    go : (b : Bool) → length (decimal_by k (n / 10)) ≤ k → length (By k n b) ≤ suc k
    go true h = omega arith
    go false h = omega (arith, one_more k n)

-- a number below a power of 10 has at most as many digits
narrow : (k d n : ℕ) → n < 10 ^ suc d → length (decimal_by k n) ≤ suc d
unfolding decimal_by
narrow zero d n h = omega arith
narrow (suc k) d n h = go d h (λ d. narrow k d (n / 10)) (n <? 10) refl
  where
    go : (d : ℕ) → n < 10 ^ suc d → ((d : ℕ) → n / 10 < 10 ^ suc d → length (decimal_by k (n / 10)) ≤ suc d) → (b : Bool)
        → (n <? 10) ≡ b → length (By k n b) ≤ suc d
    go d h rest true e = omega arith
    go zero h rest false e = absurd (omega (arith, ltb-false n 10 e))
    go (suc d) h rest false e =
        let tenth : n / 10 < 10 ^ suc d = (div-lt_iff_lt-mul {k = 10} (omega arith)).1 (rw pow-suc at h) in
        omega (arith, one_more k n, rest d tenth)

-- another one has more
wide : (k d n : ℕ) → d < k → 10 ^ d ≤ n → d < length (decimal_by k n)
unfolding decimal_by
wide zero d n l h = absurd (omega arith)
wide (suc k) d n l h = go d l h (λ d. wide k d (n / 10)) (n <? 10) refl
  where
    go : (d : ℕ) → d < suc k → 10 ^ d ≤ n → ((d : ℕ) → d < k → 10 ^ d ≤ n / 10 → d < length (decimal_by k (n / 10)))
        → (b : Bool) → (n <? 10) ≡ b → d < length (By k n b)
    go zero l h rest true e = omega arith
    go zero l h rest false e = omega (arith, one_more k n)
    go (suc d) l h rest true e =
        absurd (omega (arith, ltb-true n 10 e, pow-le-pow_right {n = 10} (omega arith) {i = 1} {j = suc d} (omega arith)))
    go (suc d) l h rest false e =
        let tenth : 10 ^ d ≤ n / 10 = (le-div_iff_mul-le {k = 10} (omega arith)).1 (rw pow-suc at h) in
        omega (arith, one_more k n, rest d (omega arith) tenth)

exact : (k n : ℕ) → decimal_by k n ≡ last_digits (length (decimal_by k n)) n
unfolding decimal_by last_digits
exact zero n = refl
exact (suc k) n = go (exact k (n / 10)) (n <? 10) refl
  where
    go : decimal_by k (n / 10) ≡ last_digits (length (decimal_by k (n / 10))) (n / 10) → (b : Bool) → (n <? 10) ≡ b
        → By k n b ≡ last_digits (length (By k n b)) n
    go rest true e = ap (λ (x : ℕ). (48 + x) ∷ []) (sym (mod-eq_of_lt (ltb-true n 10 e)))
    go rest false e =
        ap (λ (l : List ℕ). l ++ ((48 + n % 10) ∷ [])) rest
        ∙ sym (ap (λ (m : ℕ). last_digits m n) (one_more k n))

pub decimal_length : (n : ℕ) → length (decimal n) ≤ 20
unfolding decimal
decimal_length n = by_length 20 n

pub decimal_some : (n : ℕ) → 1 ≤ length (decimal n)
unfolding decimal decimal_by
decimal_some n = go (n <? 10)
  where
    go : (b : Bool) → 1 ≤ length (By 19 n b)
    go true = omega arith
    go false = omega (arith, one_more 19 n)

pub decimal_narrow : (d n : ℕ) → 1 ≤ d → n < 10 ^ d → length (decimal n) ≤ d
unfolding decimal
decimal_narrow zero n l h = absurd (omega arith)
decimal_narrow (suc d) n l h = narrow 20 d n h

pub decimal_wide : (d n : ℕ) → d < 20 → 10 ^ d ≤ n → d + 1 ≤ length (decimal n)
unfolding decimal
decimal_wide d n l h = omega (arith, wide 20 d n l h)

-- one digit more than the logarithm says, which is that of 1 for 0
pub decimal_log : (n k : ℕ) → 10 ^ k ≤ max n 1 → max n 1 < 10 * 10 ^ k → k < 20 → k + 1 ≡ length (decimal n)
decimal_log n zero low high bound =
    omega (arith, decimal_narrow 1 n (omega arith) (omega arith), decimal_some n)
decimal_log n (suc k) low high bound =
    let some : 1 ≤ 10 ^ k = pow-le-pow_right {n = 10} (omega arith) {i = 0} {j = k} (omega arith) in
    let whole : 10 ^ suc k ≤ n = rw pow-suc (let low' = rw pow-suc at low in omega arith) in
    let narrow : n < 10 ^ suc (suc k) = rw pow-suc (omega arith) in
    omega (arith, decimal_narrow (suc (suc k)) n (omega arith) narrow, decimal_wide (suc k) n bound whole)

pub one_digit : (n : ℕ) → n < 10 → decimal n ≡ (48 + n) ∷ []
unfolding decimal decimal_by
one_digit n h = rw (lt-ltb n 10 h)

-- a number is as many of its last digits as it has
pub decimal_exact : (n : ℕ) → decimal n ≡ last_digits (length (decimal n)) n
unfolding decimal
decimal_exact n = exact 20 n
