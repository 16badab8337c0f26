-- What is known of a participant whose order can be numbered.
use Prim.Native.Nat.{ℕ, ◌≤◌, ◌<◌}
use native.Mathlib.Omega.{arith}
use mathlib.Core.List.{List}
use lib.ListN.{get_or}
use Rattle.market.specs.Limits.{max_own_codes, max_participants}
use Rattle.codes.specs.Numbers.{Numberable}

-- his count can be read, and one more fits
pub own_count : {n : ℕ} {codes : List ℕ} {p : ℕ} → Numberable n codes p
    → (p < max_participants) × (get_or codes p 0 ≤ max_own_codes)
own_count {p = p} k = (omega (arith, k.participant, k.few), k.codes.limit p k.participant)
