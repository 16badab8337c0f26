-- The counts of the first participants, added up.
use Rattle.std.proofs.Common.{◌≡◌, ℕ, zero, suc, ◌+◌, ◌≤◌, List, get_or, length, take, refl, add-one, arith}
use Rattle.std.specs.List.{sum}
use Rattle.std.proofs.lemmas.List.Sums.{sum_by_more}
use Rattle.market.specs.Limits.{max_codes, max_participants}
use Rattle.market.specs.Tests.{sum_below}
use Rattle.market.proofs.Codes.{CodesWithin, codes_top}

pub sum_first : (codes : List ℕ) (n : ℕ) → n ≤ length codes → sum (take n codes) ≡ sum_below n (λ p. get_or codes p 0)
sum_first codes zero h = refl
sum_first codes (suc n) h =
    let before = sum_first codes n (omega arith) in
    let more : sum (take (suc n) codes) ≡ sum (take n codes) + get_or codes n 0 =
    rw add-one at (sum_by_more (λ x. x) codes n 0 (omega arith)) in
    omega arith

pub first_top : (codes : List ℕ) (n : ℕ) → n ≤ max_participants → CodesWithin n codes → sum (take n codes) ≤ max_codes
first_top codes n few ok = omega (arith, sum_first codes n, ok.places, codes_top n codes few ok)
