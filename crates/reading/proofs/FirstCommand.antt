-- The first command of a text from a place on, by its first line.
use Prim.Native.Nat.{ℕ, ◌<◌, min}
use native.Mathlib.Omega.{arith}
use mathlib.Core.Path.{◌≡◌, refl}
use mathlib.Core.List.{List}
use mathlib.Core.Bool.{Bool, true, false}
use lib.Dec.{ltb}
use borrow.Author.Tests.{ltb-false, ltb-true}
use lib.ListN.{drop, drop_of_length-le, length}
use lib.Seq.{drop-length}
use Rattle.market.specs.declared.Call.TheVariants as call
use Rattle.lines.specs.declared.Line.{Line}
use Rattle.lines.specs.declared.Line.TheVariants as line
use Rattle.reading.specs.declared.Reading.{Reading}
use Rattle.reading.specs.Commands.{Reads, ReadsLine, Yields, single, yield, yield_by}
use Rattle.reading.proofs.Groups.{one_line, single_yields}

-- a line that is no group's takes no other lines
no_group_lem : (says : Line) (t : List ℕ) → ((p n : ℕ) → says ≡ line.Call (call.Group p n) → ⊥)
    → yield_by says t ≡ single says t
no_group_lem (line.Call (call.Reserve m)) t h = refl
no_group_lem (line.Call (call.Order p m k)) t h = refl
no_group_lem (line.Call (call.Cancel p code)) t h = refl
no_group_lem (line.Call (call.Group p n)) t h = absurd (h p n refl)
no_group_lem (line.Call (call.Start z)) t h = refl
no_group_lem (line.Call (call.ClosingOrder p side s lots)) t h = refl
no_group_lem (line.Call (call.End z)) t h = refl
no_group_lem (line.Heading a b c) t h = refl
no_group_lem (line.Security a b c) t h = refl
no_group_lem (line.Member m) t h = refl
no_group_lem line.Malformed t h = refl

-- reading starts at `at`, or at the text's end where `at` is not inside
record Starts (text : List ℕ) (at from : ℕ) : Type 0 where
  pub rest : drop from text ≡ drop at text
  pub here : at < length text → from ≡ at

starts : (text : List ℕ) (at : ℕ) → Starts text at (min at (length text))
starts text at = go (ltb at (length text)) refl
  where
    go : (z : Bool) → ltb at (length text) ≡ z → Starts text at (min at (length text))
    go true e =
        let some = ltb-true at (length text) e in
        let same : min at (length text) ≡ at = omega arith in
        record { rest = rw same; here = λ _. same }
    go false e =
        let past = ltb-false at (length text) e in
        let same : min at (length text) ≡ length text = omega arith in
        record {
          rest = rw (same, drop-length, drop_of_length-le text past);
          here = λ some. absurd (omega arith);
        }

module _ (text : List ℕ) (at from : ℕ) (says : Line) (next : ℕ) (is : from ≡ min at (length text))
    (read : ReadsLine text from says next) where
  start : Starts text at from
  start = rw is (starts text at)

  first : yield (drop at text) ≡ yield_by says (drop next text)
  unfolding yield
  first = rw (read.rest, read.said, start.rest)

  reads : (r : Reading) → Yields text next (yield_by says (drop next text)) r → Reads text at r
  reads r y =
      let z : Yields text next (yield (drop at text)) r = rw first y in
      record {
        says = z.says;
        members = z.members;
        lines = z.lines;
        rest = z.rest;
        forward = λ some.
            let same = start.here some in
            (omega (arith, read.forward (omega arith)), z.inside);
      }

  pub reads_group : (p n : ℕ) (r : Reading) → says ≡ line.Call (call.Group p n)
      → Yields text next (yield_by (line.Call (call.Group p n)) (drop next text)) r → Reads text at r
  reads_group p n r e y = reads r (rw e y)

  pub reads_single : (r : Reading) → ((p n : ℕ) → says ≡ line.Call (call.Group p n) → ⊥) → r ≡ one_line says next
      → Reads text at r
  reads_single r other e =
      reads r (single_yields text next read.inside says _ (no_group_lem says (drop next text) other) r e)
