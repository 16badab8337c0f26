-- One member of a group, and what it leaves of the group.
use Prim.Native.Nat.{ℕ, zero, suc, ◌+◌, ◌≤◌, ◌<◌}
use native.Mathlib.Nat.{zero-add}
use native.Mathlib.Omega.{arith}
use mathlib.Core.Path.{◌≡◌, refl, ap, sym, ◌∙◌}
use mathlib.Core.List.{List, [], ◌∷◌, ◌++◌, append_assoc}
use Rattle.market.specs.declared.Ticket.{Ticket}
use Rattle.market.specs.declared.TimeInForce.TheVariants.{FillOrKill}
use Rattle.market.specs.Limits.{max_lots}
use Rattle.market.specs.Day.{Day}
use Rattle.market.specs.TradeList.{Trade}
use Rattle.market.specs.Answers.{Result, numbers_of}
use Rattle.market.specs.Calls.{entry_of}
use Rattle.market.specs.Questions.{member_questions, order_questions}
use Rattle.market.specs.Entry.{entered}
use Rattle.market.specs.Linked.{Group, member_by, members, passed, stopped, with_member}
use Rattle.market.proofs.Logic.{within_high}
use Rattle.market.proofs.Questions.{all_yes, yes}
use Rattle.orders.specs.Entering.{member_no}

-- members that filled so many lots in these trades, before the rest of the group
abbrev pub before : ℕ → List Trade → Group → Group
before filled ts (stopped n at) = stopped n at
before filled ts (passed d more us) = passed d (filled + more) (ts ++ us)

pub before_none : (g : Group) → g ≡ before 0 [] g
before_none (stopped n at) = refl
before_none (passed d more us) = ap (λ (n : ℕ). passed d n us) (sym (zero-add more))

before_member : (filled : ℕ) (ts : List Trade) (r : Result) (g : Group)
    → before filled ts (with_member r g) ≡ before (filled + (numbers_of r.answer).filled) (ts ++ r.trades) g
before_member filled ts r (stopped n at) = refl
before_member filled ts r (passed d more us) =
    let own = (numbers_of r.answer).filled in
    let sum : filled + (own + more) ≡ filled + own + more = omega arith in
    rw (sum, append_assoc ts r.trades us)

module _ (d : Day) (p : ℕ) (m : Ticket) where
  abbrev result : Result
  result = entered d (entry_of d p m) FillOrKill

  pub member_few : member_no d p m ≡ 0 → (numbers_of result.answer).filled ≤ max_lots
  unfolding entered order_questions
  member_few e =
      let qs = member_questions d p m in
      omega (arith, within_high 1 max_lots m.lots (yes 7 qs (all_yes qs tt e)))

  -- the group from this member on
  module _ (at filled : ℕ) (ts : List Trade) (ms : List Ticket) where
    pub member_accepted : member_no d p m ≡ 0
        → before filled ts (members at d p (m ∷ ms))
        ≡ before (filled + (numbers_of result.answer).filled) (ts ++ result.trades)
        (members (suc at) result.day p ms)
    unfolding members
    member_accepted e =
        ap (λ (n : ℕ). before filled ts (member_by n at result (λ d'. members (suc at) d' p ms))) e
        ∙ before_member filled ts result (members (suc at) result.day p ms)

    pub member_refused : (n : ℕ) → 0 < n → member_no d p m ≡ n
        → before filled ts (members at d p (m ∷ ms)) ≡ stopped n at
    unfolding members
    member_refused zero h e = absurd (omega arith)
    member_refused (suc n) h e =
        ap (λ (n : ℕ). before filled ts (member_by n at result (λ d'. members (suc at) d' p ms))) e
