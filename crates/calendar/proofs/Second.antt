-- The sum of a second part: within half a unit of the fraction, and in range.
use Prim.Native.Nat.{ℕ, ◌+◌, ◌*◌, ◌-◌, ◌≤◌, ◌<◌}
use native.Mathlib.Omega.{arith}
use native.Mathlib.Nat.{mul-le-mul}
use Rattle.market.specs.Limits.{max_first_sum, max_offer_rate, max_term}
use Rattle.market.specs.Calendar.{day_count, long_year, second_sum, second_unit}
use Rattle.market.proofs.Needs.{nearest_within}
use Rattle.calendar.proofs.Days.{count_most}

-- "within half a unit of that fraction", "half up": S2 less S1 is at most half a unit above it and less than half below
pub second_within : (sum rate first term : ℕ)
    → let paid = (second_sum sum rate first term - sum) * second_unit in
    let exact = sum * rate * day_count first term in
    (2 * paid ≤ 2 * exact + second_unit) × (2 * exact < 2 * paid + second_unit)
unfolding second_sum
second_within sum rate first term =
    let n = nearest_within (sum * rate * day_count first term) second_unit (omega arith) in
    (omega arith, omega arith)

-- the products, 5 × 10^13 and 6.7 × 10^18, fit 64 bits
pub rated_most : (sum rate : ℕ) → sum ≤ max_first_sum → rate ≤ max_offer_rate → sum * rate ≤ max_first_sum * max_offer_rate
rated_most sum rate s r = mul-le-mul s r

pub product_most : (sum rate first term : ℕ) → sum ≤ max_first_sum → rate ≤ max_offer_rate → term ≤ max_term
    → sum * rate * day_count first term ≤ max_first_sum * max_offer_rate * (max_term * long_year)
product_most sum rate first term s r t = mul-le-mul (rated_most sum rate s r) (count_most first term t)

-- no second sum is below the first, or above 1.5 × 10^10
pub second_range : (sum rate first term : ℕ) → sum ≤ max_first_sum → rate ≤ max_offer_rate → term ≤ max_term
    → (sum ≤ second_sum sum rate first term) × (second_sum sum rate first term ≤ 15000000000)
unfolding second_sum
second_range sum rate first term s r t =
    let n = nearest_within (sum * rate * day_count first term) second_unit (omega arith) in
    let p = product_most sum rate first term s r t in
    (omega arith, omega arith)
