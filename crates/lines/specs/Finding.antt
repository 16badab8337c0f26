-- Where a byte stands in a text for the first time.
use Rattle.std.specs.Prelude.{ℕ, suc, List, [], ◌∷◌, Bool, true, false, drop, take}
use Rattle.market.specs.Tests.{◌=?◌}

-- one place further, unless it is here
abbrev pub index_after : Bool → ℕ → ℕ
index_after true n = 0
index_after false n = suc n

-- how many bytes stand before the first b; without one, all
unfoldable pub index_of : ℕ → List ℕ → ℕ
index_of b [] = 0
index_of b (x ∷ t) = index_after (x =? b) (index_of b t)

-- the bytes of a text in from..to
abbrev pub slice : ℕ → ℕ → List ℕ → List ℕ
slice from to text = drop from (take to text)
