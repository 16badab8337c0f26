-- Fields and numbers of a text, which is a list of bytes.
use Rattle.std.specs.Prelude.{ℕ, ◌+◌, ◌*◌, ◌-◌, List, [], ◌∷◌, Bool, true, false, cond, length}
use Rattle.market.specs.Tests.{◌=?◌, ◌and◌, all_of, within}

-- the byte that parts fields
abbrev pub comma : ℕ
comma = 44

-- the bytes before the first b, or all
unfoldable pub up_to : ℕ → List ℕ → List ℕ
up_to b [] = []
up_to b (x ∷ t) = cond (x =? b) [] (x ∷ up_to b t)

-- the bytes from the first b on, or none
unfoldable pub starting_at : ℕ → List ℕ → List ℕ
starting_at b [] = []
starting_at b (x ∷ t) = cond (x =? b) (x ∷ t) (starting_at b t)

-- "0" to "9"
abbrev pub is_digit : ℕ → Bool
is_digit b = within 48 57 b

-- "without leading zeros": a lone 0 is a number
abbrev pub no_leading_zero : List ℕ → Bool
no_leading_zero [] = true
no_leading_zero (x ∷ []) = true
no_leading_zero (x ∷ y ∷ t) = cond (x =? 48) false true

-- "numbers of 1 to 16 decimal digits"
unfoldable pub is_number : List ℕ → Bool
is_number f = within 1 16 (length f) and all_of is_digit f and no_leading_zero f

-- v continued by digits
unfoldable pub value_from : ℕ → List ℕ → ℕ
value_from v [] = v
value_from v (x ∷ t) = value_from (v * 10 + (x - 48)) t

-- the value of decimal digits
unfoldable pub value_of : List ℕ → ℕ
value_of f = value_from 0 f
