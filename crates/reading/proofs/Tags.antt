-- The tag of what a line says: its variant's place among those of `Line`.
use Prim.Native.Nat.{ℕ}
use borrow.Author.Rules.{rules}
use mathlib.Core.Path.{◌≡◌, refl}
use mathlib.Core.List.{List, [], ◌∷◌}
use types.Run.{OneOf}
use denote.Enum.Declared.{tag_of}
use Rattle.market.specs.declared.Call.{Call}
use Rattle.market.specs.Tests.{remove_at}
use Rattle.lines.specs.declared.Line.{Line}
use Rattle.lines.specs.declared.Line.TheVariants as line
use Rattle.lines.specs.contracts.Line.{the_type as line-type}

abbrev pub call_tag : ℕ
call_tag = 0

-- all tags but one
abbrev pub other_lines : ℕ → List ℕ
other_lines tag = remove_at (0 ∷ 1 ∷ 2 ∷ 3 ∷ 4 ∷ []) tag

-- of another variant than the one with this tag
abbrev pub OtherLine : ℕ → Line → Type 0
OtherLine tag l = OneOf (other_lines tag) (tag_of line-type l)

-- What a `let .. else` leaves: another line than a call.
pub not_call : (l : Line) → ((c : Call) → l ≡ line.Call c → ⊥) → OtherLine call_tag l
not_call (line.Call c) h = absurd (h c refl)
not_call (line.Heading a b c) h = search rules
not_call (line.Security a b c) h = search rules
not_call (line.Member m) h = search rules
not_call line.Malformed h = search rules
