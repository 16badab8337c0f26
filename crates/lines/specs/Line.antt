-- What a line says.
use Rattle.std.specs.Prelude.{ℕ, suc, List, [], ◌∷◌, cond, replicate, set, Some, None}
use Rattle.std.specs.declared.option.Option.{Option}
use Rattle.market.specs.Tests.{◌=?◌}
use Rattle.lines.specs.declared.Line.{Line}
use Rattle.lines.specs.declared.Line.TheVariants.{Malformed}
use Rattle.lines.specs.declared.Part.{Part}
use Rattle.lines.specs.declared.Part.TheVariants as part
use Rattle.lines.specs.Text.{comma, is_number, starting_at, up_to, value_of}
use Rattle.lines.specs.Forms.{Row, row_of}

-- the place of a single letter among those that a field may hold
abbrev pub place_among : ℕ → ℕ → List ℕ → Option ℕ
place_among x i [] = None
place_among x i (l ∷ ls) = cond (x =? l) (Some i) (place_among x (suc i) ls)

abbrev pub letter_among : List ℕ → List ℕ → Option ℕ
letter_among ls [] = None
letter_among ls (x ∷ []) = place_among x 0 ls
letter_among ls (x ∷ y ∷ t) = None

-- the value of a field by what it holds: a number; B or L; K, I or A
unfoldable pub value : Part → List ℕ → Option ℕ
value part.Number f = cond (is_number f) (Some (value_of f)) None
value part.Side f = letter_among (66 ∷ 76 ∷ []) f
value part.Force f = letter_among (75 ∷ 73 ∷ 65 ∷ []) f
value part.Nothing f = None

-- the values of all fields in 5 places, or a form that is not kept
abbrev pub Values : Type 0
Values = Option (List ℕ)

abbrev pub no_values : List ℕ
no_values = replicate 5 0

abbrev pub value_by : Option ℕ → (ℕ → Values) → Values
value_by None next = None
value_by (Some v) next = next v

-- "fields parted by commas": a comma and a field for each part, the first for place i of vs, and nothing else
unfoldable pub values_from : List Part → ℕ → List ℕ → List ℕ → Values
values_from [] i vs [] = Some vs
values_from [] i vs (x ∷ t) = None
values_from (p ∷ ps) i vs [] = None
values_from (p ∷ ps) i vs (x ∷ t) =
    cond (x =? comma)
    (value_by (value p (up_to comma t)) (λ v. values_from ps (suc i) (set vs i v) (starting_at comma t)))
    None

-- what a line says
abbrev pub says_by : Row → Values → Line
says_by r None = Malformed
says_by r (Some vs) = r.says vs

unfoldable pub line_says : List ℕ → Line
line_says [] = Malformed
line_says (letter ∷ t) = says_by (row_of letter) (values_from (row_of letter).parts 0 no_values t)
