-- A group on a sound floor, refused or carried through, as its contract asks for it.
use Prim.Native.Nat.{ℕ, ◌≤◌, ◌<◌}
use native.Mathlib.Omega.{arith}
use mathlib.Core.Path.{◌≡◌, ap, sym, ◌∙◌}
use mathlib.Core.List.{List}
use mathlib.Core.Bool.{false}
use lib.ListN.{length, take}
use borrow.Author.Tests.{le-leb, lt-leb}
use Rattle.market.specs.declared.Answer.{Answer}
use Rattle.market.specs.declared.Answer.TheVariants.{Refused}
use Rattle.market.specs.declared.Floor.{Floor}
use Rattle.market.specs.declared.Rules.{Rules}
use Rattle.market.specs.declared.Ticket.{Ticket}
use Rattle.market.specs.Limits.{lent_at_least, max_members, min_members}
use Rattle.market.specs.Tests.{within}
use Rattle.market.specs.Day.{Day}
use Rattle.market.specs.View.{day_of}
use Rattle.market.specs.TradeList.{written}
use Rattle.market.specs.Answers.{Result}
use Rattle.market.specs.Calls.{Call, linked}
use Rattle.market.specs.Linked.{Group, group_result, members}
use Rattle.market.specs.Questions.{first_no, questions}
use Rattle.market.specs.Step.{effect}
use Rattle.market.specs.Parts.{Carries, HandedBack, Ready}
use Rattle.market.proofs.Parts.{carries_accept, carries_refuse}
use Rattle.linked.specs.Group.{Groupable}

module _ (r : Rules) (f : Floor) (l : List ℕ) (p count : ℕ) (ms : List Ticket) where
  abbrev d : Day
  d = day_of r f

  abbrev call : Call
  call = linked p count ms

  -- questions 2 and 3
  pub group_short : Ready r f → length l < lent_at_least → Carries r f l call f l (Refused 2 0)
  unfolding questions
  group_short ready h =
      carries_refuse r f l call ready.sound 2 (omega arith) (rw (lt-leb lent_at_least (length l) h))

  pub group_many : Ready r f → lent_at_least ≤ length l → within min_members max_members count ≡ false
      → Carries r f l call f l (Refused 3 0)
  unfolding questions
  group_many ready h w =
      carries_refuse r f l call ready.sound 3 (omega arith)
      (rw (le-leb lent_at_least (length l) h, w))

  module _ (able : Groupable r f count l) where
    asked : first_no (questions d (length l) call) ≡ 0
    unfolding questions
    asked = rw (le-leb lent_at_least (length l) able.lent, able.few)

    -- what the members come to
    module _ (g : Group) (all : members 1 d p (take count ms) ≡ g) where
      same : group_result d p g ≡ effect d call
      unfolding effect
      same = ap (group_result d p) (sym all)

      pub group_carries : (f' : Floor) (l' : List ℕ) (a : Answer) → a ≡ (group_result d p g).answer
          → day_of r f' ≡ (group_result d p g).day → l' ≡ written (group_result d p g).trades l → HandedBack f a f'
          → Carries r f l call f' l' a
      group_carries f' l' a answer day list back =
          carries_accept r f l call able.ready.sound f' l' a asked
          (answer ∙ ap (λ (y : Result). y.answer) same)
          (day ∙ ap (λ (y : Result). y.day) same)
          (list ∙ ap (λ (y : Result). written y.trades l) same) back
