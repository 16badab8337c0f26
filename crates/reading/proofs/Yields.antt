-- What the reader yields is short: the text after a command is shorter than before it, and a command takes few lines.
use Prim.Native.Nat.{ℕ, zero, suc, ◌≤◌}
use native.Mathlib.Omega.{arith}
use mathlib.Core.Path.{◌≡◌, refl}
use mathlib.Core.List.{List, [], ◌∷◌}
use mathlib.Core.Bool.{Bool, true, false, cond}
use lib.ListN.{length, set}
use Rattle.market.specs.declared.Call.{Call}
use Rattle.market.specs.declared.Ticket.{Ticket}
use Rattle.market.specs.Limits.{max_members, min_members}
use Rattle.market.specs.Tests.{◌=?◌, within}
use Rattle.market.proofs.Logic.{within_high}
use Rattle.lines.specs.declared.Line.{Line}
use Rattle.lines.specs.declared.Line.TheVariants as line
use Rattle.lines.specs.Line.{line_says}
use Rattle.lines.specs.Text.{starting_at}
use Rattle.reading.specs.Commands.{Group, Members, Yield, after_line, behind, call_by, first_line, group_by, group_in}
use Rattle.market.specs.Calls.{no_tickets}
use Rattle.reading.specs.Commands.{group_of, line_end, member_by, members_from, missing, no_group, of_group}
use Rattle.reading.specs.Commands.{taken, yield, yield_by}

behind_short : (t : List ℕ) → length (behind t) ≤ length t
unfolding behind
behind_short [] = omega arith
behind_short (x ∷ t) = omega arith

starting_short : (b : ℕ) (t : List ℕ) → length (starting_at b t) ≤ length t
unfolding starting_at
starting_short b [] = omega arith
starting_short b (x ∷ t) = go (x =? b) (starting_short b t)
  where
    go : (here : Bool) → length (starting_at b t) ≤ length t
        → length (cond here (x ∷ t) (starting_at b t)) ≤ suc (length t)
    go true h = omega arith
    go false h = omega (arith, h)

-- a line takes at least a byte
after_shorter : (x : ℕ) (t : List ℕ) → length (after_line (x ∷ t)) ≤ length t
unfolding after_line starting_at behind
after_shorter x t = go (x =? line_end) (starting_short line_end t) (behind_short (starting_at line_end t))
  where
    go : (here : Bool) → length (starting_at line_end t) ≤ length t
        → length (behind (starting_at line_end t)) ≤ length (starting_at line_end t)
        → length (behind (cond here (x ∷ t) (starting_at line_end t))) ≤ length t
    go true h k = omega arith
    go false h k = omega (arith, h, k)

-- the text that members' lines leave
abbrev left_of : Members → List ℕ
left_of missing = []
left_of (taken ms t) = t

member_short : (k : ℕ) (says : Line) (next : Ticket → Members) → ((m : Ticket) → length (left_of (next m)) ≤ k)
    → length (left_of (member_by says next)) ≤ k
member_short k (line.Call c) next h = omega arith
member_short k (line.Heading a b c) next h = omega arith
member_short k (line.Security a b c) next h = omega arith
member_short k (line.Member m) next h = h m
member_short k line.Malformed next h = omega arith

members_short : (n i : ℕ) (ms : List Ticket) (t : List ℕ) → length (left_of (members_from n i ms t)) ≤ length t
unfolding members_from
members_short zero i ms t = omega arith
members_short (suc n) i ms [] = omega arith
members_short (suc n) i ms (x ∷ t) =
    member_short (suc (length t)) (line_says (first_line (x ∷ t))) _ (λ m.
    let rest = members_short n (suc i) (set ms i m) (after_line (x ∷ t)) in
    let shorter = after_shorter x t in
    omega (arith, rest, shorter))

-- what a command leaves of the text after its first line, and how many lines it takes
record Short (t : List ℕ) (y : Yield) : Type 0 where
  pub rest : length y.rest ≤ length t
  pub lines : y.lines ≤ suc max_members

group_short : (p n : ℕ) (t : List ℕ) → Short t (group_in (within min_members max_members n) p n t)
group_short p n t = go (within min_members max_members n) refl
  where
    with_members : n ≤ max_members → (ms : Members) → length (left_of ms) ≤ length t → Short t (group_by p n t ms)
    with_members most missing h = record { rest = omega arith; lines = omega arith }
    with_members most (taken ms rest) h = record { rest = h; lines = omega (arith, most) }

    go : (k : Bool) → within min_members max_members n ≡ k → Short t (group_in k p n t)
    go true e = with_members (within_high min_members max_members n e) (members_from n 0 no_tickets t)
        (members_short n 0 no_tickets t)
    go false e = record { rest = omega arith; lines = omega arith }

call_short : (c : Call) (g : Group) (t : List ℕ) → Short t (call_by c g t)
call_short c (of_group p n) t = group_short p n t
call_short c no_group t = record { rest = omega arith; lines = omega arith }

short : (says : Line) (t : List ℕ) → Short t (yield_by says t)
short (line.Call c) t = call_short c (group_of c) t
short (line.Heading a b c) t = record { rest = omega arith; lines = omega arith }
short (line.Security a b c) t = record { rest = omega arith; lines = omega arith }
short (line.Member m) t = record { rest = omega arith; lines = omega arith }
short line.Malformed t = record { rest = omega arith; lines = omega arith }

pub yield_shorter : (x : ℕ) (t : List ℕ) → length (yield (x ∷ t)).rest ≤ length t
unfolding yield
yield_shorter x t =
    let rest = (short (line_says (first_line (x ∷ t))) (after_line (x ∷ t))).rest in
    let shorter = after_shorter x t in
    omega (arith, rest, shorter)

pub yield_few : (t : List ℕ) → (yield t).lines ≤ suc max_members
unfolding yield
yield_few t = (short (line_says (first_line t)) (after_line t)).lines
