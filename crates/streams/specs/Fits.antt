-- What the contracts of the readings cite: how many bytes an answer says there are, and where. A failure promises nothing.
use Rattle.std.specs.Prelude.{ℕ, ◌+◌, ◌≤◌, ◌≡◌, List, Option, None, Some, length, take}

-- `&xs[..n]` is in bounds and has n bytes. The second part follows from the first, and spares a caller's `&buf[..n]` a proof file.
abbrev pub IsPrefixLen : ℕ → List ℕ → Type 0
IsPrefixLen n xs = (n ≤ length xs) × (n ≡ length (take n xs))

-- the first n bytes of the lent ones
abbrev pub Fits : Option ℕ → List ℕ → Type 0
Fits (Some n) bytes = IsPrefixLen n bytes
Fits None bytes = Unit {0}

-- n further bytes, behind the first `from`
abbrev pub More : Option ℕ → ℕ → List ℕ → Type 0
More (Some n) from bytes = from + n ≤ length bytes
More None from bytes = Unit {0}
