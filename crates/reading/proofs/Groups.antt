-- What a command of one line yields, and what a group yields.
use Prim.Native.Nat.{ℕ, ◌+◌, ◌≤◌, ◌<◌}
use native.Mathlib.Numerals.{add-one}
use native.Mathlib.Omega.{arith}
use mathlib.Core.Path.{◌≡◌, refl}
use mathlib.Core.List.{List}
use Rattle.std.specs.Prelude.{Some, None}
use lib.ListN.{drop, length}
use borrow.Author.Tests.{le-leb, lt-leb}
use Rattle.market.specs.declared.Call.TheVariants as call
use Rattle.market.specs.Limits.{max_members, min_members}
use Rattle.market.specs.Tests.{◌and◌}
use Rattle.lines.specs.declared.Line.{Line}
use Rattle.lines.specs.declared.Line.TheVariants as line
use Rattle.reading.specs.declared.Members as code
use Rattle.reading.specs.declared.Reading.{Reading}
use Rattle.market.specs.Calls.{no_tickets}
use Rattle.reading.specs.Commands.{ReadsMembers, Yield, Yields, single, yield_by}

-- a reading of one line, which ends before `next`
abbrev pub one_line : Line → ℕ → Reading
one_line says next = record { says = says; members = no_tickets; lines = 1; next = next }

module _ (text : List ℕ) (next : ℕ) (inside : next ≤ length text) where
  pub single_yields : (says : Line) (y : Yield) → y ≡ single says (drop next text)
      → (r : Reading) → r ≡ one_line says next → Yields text next y r
  single_yields says y e r h = rw (e, h) (record {
    says = refl;
    members = refl;
    lines = refl;
    rest = refl;
    inside = inside;
    forward = omega arith;
  })

  module _ (p n : ℕ) where
    abbrev first : Line
    first = line.Call (call.Group p n)

    abbrev group : Yield
    group = yield_by first (drop next text)

    pub group_below : n < min_members → (r : Reading) → r ≡ one_line first next → Yields text next group r
    unfolding ◌and◌
    group_below h = single_yields first group (rw (lt-leb min_members n))

    pub group_above : max_members < n → (r : Reading) → r ≡ one_line first next → Yields text next group r
    unfolding ◌and◌
    group_above h =
        let low : min_members ≤ n = omega arith in
        single_yields first group (rw (le-leb min_members n, lt-leb n max_members))

    module _ (low : min_members ≤ n) (high : n ≤ max_members) where
      pub group_missing : ReadsMembers text next n None → (r : Reading) → r ≡ one_line line.Malformed next
          → Yields text next group r
      unfolding ◌and◌
      group_missing reads =
          single_yields line.Malformed group (rw (le-leb min_members n, le-leb n max_members, ← reads.members))

      pub group_taken : (m : code.Members) → ReadsMembers text next n (Some m)
          → Yields text next group (record { says = first; members = m.list; lines = n + 1; next = m.next })
      unfolding ◌and◌
      group_taken m reads = rw (le-leb min_members n, le-leb n max_members, ← reads.members) (record {
        says = refl;
        members = refl;
        lines = add-one n;
        rest = refl;
        inside = reads.inside;
        forward = reads.forward;
      })

-- what `reading::group_at` goes by
pub ruleset group_lines = (group_below, group_above, group_missing, group_taken)
