-- From the questions and the entry of an order on a sound floor to the contract of the call.
use Prim.Native.Nat.{ℕ, ◌≤◌, ◌<◌}
use native.Mathlib.Omega.{arith}
use mathlib.Core.Path.{◌≡◌, ap, sym, ◌∙◌, subst}
use mathlib.Core.List.{List}
use mathlib.Core.Bool.{true, false}
use lib.ListN.{length}
use borrow.Author.Tests.{ltb-true, le-leb, lt-leb}
use Rattle.market.specs.declared.Access.{Access}
use Rattle.market.specs.declared.Answer.{Answer}
use Rattle.market.specs.declared.Answer.TheVariants.{Refused}
use Rattle.market.specs.declared.Floor.{Floor}
use Rattle.market.specs.declared.Order.{Order}
use Rattle.market.specs.declared.Phase.TheVariants.{Open}
use Rattle.market.specs.declared.Refusal.{Refusal}
use Rattle.market.specs.declared.Rules.{Rules}
use Rattle.market.specs.declared.Ticket.{Ticket}
use Rattle.market.specs.declared.TimeInForce.{TimeInForce}
use Rattle.market.specs.Limits.{lent_at_least, max_lots}
use Rattle.market.specs.Day.{Day}
use Rattle.market.specs.View.{day_of}
use Rattle.market.specs.Sound.{is_collecting}
use Rattle.market.specs.TradeList.{written}
use Rattle.market.specs.Answers.{Result}
use Rattle.market.specs.Calls.{Call, entry_of, order}
use Rattle.market.specs.Phases.{admits, order_access}
use Rattle.market.specs.Questions.{first_no, order_questions, questions}
use Rattle.market.specs.Refusals.{number_of}
use Rattle.market.specs.Entry.{entered, placed, taken}
use Rattle.market.specs.Step.{effect}
use Rattle.market.specs.Parts.{Carries, Ready}
use Rattle.market.proofs.Logic.{within_high}
use Rattle.market.proofs.Questions.{AllYes, all_yes, yes}
use Rattle.market.proofs.Phases.{enters_kept, enters_open}
use Rattle.market.proofs.Entry.{taken_matched, taken_waits}
use Rattle.market.proofs.Parts.{carries_accept, carries_refuse}
use Rattle.invariant.specs.Standing.{Placeable, Standing}
use Rattle.invariant.proofs.Placed.{kept_placeable}
use Rattle.invariant.proofs.Sound.{ready_standing}
use Rattle.codes.specs.Numbers.{Numberable}
use Rattle.orders.specs.Entering.{Enterable, Enters, order_no}
use Rattle.orders.proofs.Asking.{count_within, counted, positive}

-- what the questions of an order or a member tell, each answered "yes"
module _ (r : Rules) (f : Floor) (standing : Standing (day_of r f)) (p : ℕ) (t : Ticket) (a : Access) (k : TimeInForce)
    (none : order_no (day_of r f) p t a k ≡ 0) where
  abbrev d : Day
  d = day_of r f

  yeses : AllYes (order_questions d p t a k)
  unfolding order_questions
  yeses = all_yes (order_questions d p t a k) tt none

  pub numberable : Numberable r.participants f.codes p
  unfolding order_questions
  numberable =
      counted standing.backed.rules_ok standing.limit
      (ltb-true p r.participants (yes 4 (order_questions d p t a k) yeses))

  pub in_lots : t.lots ≤ max_lots
  unfolding order_questions
  in_lots = within_high 1 max_lots t.lots (yes 7 (order_questions d p t a k) yeses)

  pub enters : admits f.phase a ≡ true
  unfolding order_questions
  enters = yes 6 (order_questions d p t a k) yeses

  -- the order as it enters
  pub enterable : f.phase ≡ Open → {e : Order} → e ≡ entry_of d p t → (v : List ℕ) → lent_at_least ≤ length v
      → Enterable r f e k v
  enterable opens entry v lent = record {
    opens = opens;
    standing = standing;
    participant = p;
    member = t;
    access = a;
    entry = entry;
    asked = none;
    lent = omega (arith, lent, count_within r f standing);
  }

-- an order, with the list v lent
module _ (r : Rules) (f : Floor) (ready : Ready r f) (p : ℕ) (t : Ticket) (k : TimeInForce) (v : List ℕ) where
  abbrev d2 : Day
  d2 = day_of r f

  abbrev call : Call
  call = order p t k

  pub refuse_short : length v < lent_at_least → Carries r f v call f v (Refused 2 0)
  unfolding questions
  refuse_short h =
      carries_refuse r f v call ready.sound 2 (omega arith) (rw (lt-leb lent_at_least (length v) h))

  module _ (lent : lent_at_least ≤ length v) where
    from_four : first_no (questions d2 (length v) call) ≡ order_no d2 p t (order_access k) k
    unfolding questions
    from_four = rw (le-leb lent_at_least (length v) lent)

    -- the first "no" of those from 4 on, where question 6 is asked of access a
    module _ {a : Access} (access : a ≡ order_access k) where
      asked_of : order_no d2 p t a k ≡ order_no d2 p t (order_access k) k
      asked_of = ap (λ (z : Access). order_no d2 p t z k) access

      pub refuse_asked : (q : Refusal) → number_of q ≡ order_no d2 p t a k → Carries r f v call f v (Refused (number_of q) 0)
      refuse_asked q e =
          carries_refuse r f v call ready.sound (number_of q) (positive q) (from_four ∙ sym (e ∙ asked_of))

      -- there is none
      module _ (clear : 0 ≡ order_no d2 p t a k) where
        none : order_no d2 p t (order_access k) k ≡ 0
        none = sym (clear ∙ asked_of)

        module _ {e : Order} (entry : e ≡ entry_of d2 p t) where
          -- while collecting it is a kept one, which only waits
          pub waits : is_collecting f.phase ≡ true → Placeable d2 e
          waits collects =
              let kept = enters_kept k f.phase (enters r f (ready_standing ready) p t (order_access k) k none) collects in
              rw entry
              (kept_placeable d2 p t (subst (λ (z : TimeInForce). order_no d2 p t (order_access z) z ≡ 0) kept none))

          pub order_waits : is_collecting f.phase ≡ true → {f' : Floor} {x : Answer} → x ≡ (placed d2 e).answer
              → day_of r f' ≡ (placed d2 e).day → Carries r f v call f' v x
          unfolding effect placed
          order_waits collects {f'} {x} answer day =
              let same : effect d2 call ≡ placed d2 e =
              ap (λ (z : Order). taken d2 z k) (sym entry) ∙ taken_waits d2 e k collects in
              rw answer
              (carries_accept r f v call ready.sound f' v _ (from_four ∙ none)
              (sym (ap (λ (z : Result). z.answer) same))
              (day ∙ sym (ap (λ (z : Result). z.day) same))
              (sym (ap (λ (z : Result). written z.trades v) same)) tt)

          -- otherwise it is matched
          pub opens : is_collecting f.phase ≡ false → f.phase ≡ Open
          opens matched = enters_open k f.phase (enters r f (ready_standing ready) p t (order_access k) k none) matched

          pub enters_now : is_collecting f.phase ≡ false → Enterable r f e k v
          enters_now matched = enterable r f (ready_standing ready) p t (order_access k) k none (opens matched) entry v lent

          pub order_enters : is_collecting f.phase ≡ false → {f' : Floor} {v' : List ℕ} {x : Answer} → Enters r f e k v f' v' x
              → Carries r f v call f' v' x
          unfolding effect entered
          order_enters matched {f'} {v'} {x} y =
              let same : effect d2 call ≡ entered d2 e k =
              ap (λ (z : Order). taken d2 z k) (sym entry) ∙ taken_matched d2 e k matched in
              rw y.answer
              (carries_accept r f v call ready.sound f' v' _ (from_four ∙ none)
              (sym (ap (λ (z : Result). z.answer) same))
              (y.day ∙ sym (ap (λ (z : Result). z.day) same))
              (y.list ∙ sym (ap (λ (z : Result). written z.trades v) same)) tt)
