-- The lines of a group's members, one after another.
use Prim.Native.Nat.{ℕ, suc, ◌+◌, ◌-◌, ◌≤◌, ◌<◌}
use native.Mathlib.Nat.{sub-zero}
use native.Mathlib.Numerals.{add-one}
use native.Mathlib.Omega.{arith}
use mathlib.Core.Path.{◌≡◌, refl, ◌∙◌, sym}
use mathlib.Core.List.{List, [], ◌∷◌}
use Rattle.std.specs.Prelude.{Some, None}
use lib.ListN.{drop, drop_of_length-le, length, length-drop, set}
use Rattle.market.specs.declared.Ticket.{Ticket}
use Rattle.lines.specs.declared.Line.{Line}
use Rattle.lines.specs.declared.Line.TheVariants as line
use Rattle.lines.specs.Line.{line_says}
use Rattle.reading.specs.Commands.{Members, ReadsLine, ReadsMembers, after_line, first_line, member_by}
use Rattle.market.specs.Calls.{no_tickets}
use Rattle.reading.specs.Commands.{members_from, missing}

-- before member i: the members from here on come to those from the start on
pub record Passed (text : List ℕ) (from n : ℕ) (list : List Ticket) (at i : ℕ) : Type 0 where
  pub members : members_from (n - i) i list (drop at text) ≡ members_from n 0 no_tickets (drop from text)
  pub most : i ≤ n
  pub forward : from ≤ at
  pub inside : at ≤ length text

-- a line that is no member's
no_member : (says : Line) (next : Ticket → Members) → ((m : Ticket) → says ≡ line.Member m → ⊥)
    → member_by says next ≡ missing
no_member (line.Call c) next h = refl
no_member (line.Heading a b c) next h = refl
no_member (line.Security a b c) next h = refl
no_member (line.Member m) next h = absurd (h m refl)
no_member line.Malformed next h = refl

members_past : (n i : ℕ) (ms : List Ticket) → members_from (suc n) i ms [] ≡ missing
unfolding members_from
members_past n i ms = refl

members_line : (n i : ℕ) (ms : List Ticket) (t : List ℕ) → 0 < length t
    → members_from (suc n) i ms t
    ≡ member_by (line_says (first_line t)) (λ m. members_from n (suc i) (set ms i m) (after_line t))
unfolding members_from
members_line n i ms [] h = absurd (omega arith)
members_line n i ms (x ∷ t) h = refl

pub members_start : (text : List ℕ) (from n : ℕ) → from ≤ length text → Passed text from n no_tickets from 0
members_start text from n h = record {
  members = rw sub-zero;
  most = omega arith;
  forward = omega arith;
  inside = h;
}

module _ (text : List ℕ) (from n : ℕ) (list : List Ticket) (at i : ℕ) (p : Passed text from n list at i) where
  -- the places are full
  pub members_end : n ≤ i → ReadsMembers text from n (Some (record { list = list; next = at }))
  unfolding members_from
  members_end h =
      let none : n - i ≡ 0 = omega (arith, p.most) in
      record { members = rw none at p.members; inside = p.inside; forward = p.forward }

  -- a line is missing, or it is no member's
  abbrev Lacks : Type 0
  Lacks = ReadsMembers text from n None

  module _ (more : i < n) where
    left : n - i ≡ suc (n - suc i)
    left = omega arith

    lacks : members_from (n - i) i list (drop at text) ≡ missing → Lacks
    lacks e = record { members = sym e ∙ p.members; inside = tt; forward = tt }

    pub past_end : length text ≤ at → Lacks
    past_end h = lacks (rw (left, drop_of_length-le text h) (members_past (n - suc i) i list))

    module _ (here : at < length text) (says : Line) (next : ℕ) (read : ReadsLine text at says next) where
      turn : members_from (n - i) i list (drop at text)
          ≡ member_by says (λ m. members_from (n - suc i) (suc i) (set list i m) (drop next text))
      turn = simp (left, read.said, read.rest)
          (members_line (n - suc i) i list (drop at text) (simp length-drop (omega arith)))

      pub other_line : ((m : Ticket) → says ≡ line.Member m → ⊥) → Lacks
      other_line h = lacks (turn ∙ no_member says _ h)

      pub member_line : (m : Ticket) → says ≡ line.Member m → Passed text from n (set list i m) next (i + 1)
      member_line m e = record {
        members = rw add-one (sym (rw e at turn) ∙ p.members);
        most = omega arith;
        forward = omega (arith, p.forward, read.forward here);
        inside = read.inside;
      }

-- what `reading::members_at` goes by
pub ruleset member_lines = (members_start, members_end, past_end, other_line, member_line)
