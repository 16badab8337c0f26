-- The questions of a closing order, as the code asks them on a floor, and the call.
use Prim.Native.Nat.{ℕ, ◌≤◌, ◌<◌}
use native.Mathlib.Omega.{arith}
use mathlib.Core.Path.{◌≡◌, refl, sym, ◌∙◌}
use mathlib.Core.List.{List, [], ◌++◌}
use borrow.Author.Tests.{ltb-true}
use Rattle.market.specs.declared.Access.TheVariants.{ClosingOrder}
use Rattle.market.specs.declared.Answer.{Answer}
use Rattle.market.specs.declared.Answer.TheVariants.{Refused}
use Rattle.market.specs.declared.Floor.{Floor}
use Rattle.market.specs.declared.Order.{Order}
use Rattle.market.specs.declared.Refusal.{Refusal}
use Rattle.market.specs.declared.Rules.{Rules}
use Rattle.market.specs.declared.Side.{Side}
use Rattle.market.specs.Limits.{max_lots}
use Rattle.market.specs.Day.{Day, turnover_at}
use Rattle.market.specs.View.{day_of}
use Rattle.market.specs.Calls.{Call, closing_of, closing_order}
use Rattle.market.specs.Phases.{admits}
use Rattle.market.specs.Questions.{Question, closing_questions, covered, first_no, questions}
use Rattle.market.specs.Refusals.{number_of}
use Rattle.market.specs.Entry.{placed}
use Rattle.market.specs.Step.{effect}
use Rattle.market.specs.Parts.{Carries, Ready}
use Rattle.market.proofs.Logic.{within_high}
use Rattle.market.proofs.Questions.{AllYes, all_yes, hides, passes, yes}
use Rattle.market.proofs.Parts.{carries_accept, carries_refuse}
use Rattle.market.proofs.Turnovers.{closing_bounds}
use Rattle.market.proofs.View.{first_length}
use Rattle.invariant.specs.Standing.{Placeable, Standing}
use Rattle.invariant.proofs.Placed.{closing_placeable}
use Rattle.invariant.proofs.Sound.{ready_standing}
use Rattle.codes.specs.Numbers.{Numberable}
use Rattle.orders.specs.Entering.{open_questions}
use Rattle.orders.proofs.Asking.{counted, positive}
use Rattle.waiting.specs.Claims.{Reckonable}
use Rattle.waiting.proofs.Claims.{known_reckons}
use Rattle.session.specs.Asking.{Askable, closing_claim, later_questions}

-- on a sound day they can be asked
pub askable : (r : Rules) (f : Floor) → Standing (day_of r f) → Askable r f
askable r f standing = record {
  rules = standing.backed.rules_ok;
  prices = λ s h. (closing_bounds (turnover_at f.turnover s) (standing.turnovers s h)).0;
}

module _ (r : Rules) (f : Floor) (can : Askable r f) (p : ℕ) (side : Side) (s n : ℕ) where
  abbrev d : Day
  d = day_of r f

  abbrev early : List Question
  early = open_questions r (admits f.phase ClosingOrder) p s n

  abbrev later : List Question
  later = later_questions r f (closing_claim p side s n)

  abbrev asked : List Question
  asked = closing_questions d p side s n

  -- no need reads code or arrival
  covered_is : covered d (closing_claim p side s n) ≡ covered d (closing_of d p side s n)
  unfolding covered
  covered_is = refl

  -- the definition's questions are the early ones and the later ones
  asked_in_turn : first_no asked ≡ first_no (early ++ later)
  unfolding closing_questions
  asked_in_turn = rw (first_length f.count f.orders, covered_is)

  pub no_early : (q : Refusal) → number_of q ≡ first_no early → number_of q ≡ first_no asked
  no_early q e = e ∙ sym (asked_in_turn ∙ hides early later (omega (arith, e, positive q)))

  -- 4 to 7 are answered "yes"
  module _ (none : 0 ≡ first_no early) where
    early_yes : AllYes early
    early_yes = all_yes early tt (sym none)

    listed : s < r.securities
    listed = ltb-true s r.securities early_yes.1.0

    pub in_lots : n ≤ max_lots
    in_lots = within_high 1 max_lots n early_yes.1.1.1.0

    pub reckonable : Reckonable d (closing_claim p side s n)
    reckonable =
        known_reckons d (closing_claim p side s n) can.rules (ltb-true p r.participants early_yes.0) listed (can.prices s listed) in_lots

    pub no_later : {i : ℕ} → i ≡ first_no later → i ≡ first_no asked
    no_later e = e ∙ sym (asked_in_turn ∙ passes early later early_yes)

-- a closing order
module _ (r : Rules) (f : Floor) (ready : Ready r f) (p : ℕ) (side : Side) (s n : ℕ) where
  abbrev day : Day
  day = day_of r f

  abbrev call : Call
  call = closing_order p side s n

  abbrev all : List Question
  all = closing_questions day p side s n

  pub refuse : (q : Refusal) → number_of q ≡ first_no all → Carries r f [] call f [] (Refused (number_of q) 0)
  unfolding questions
  refuse q e = carries_refuse r f [] call ready.sound (number_of q) (positive q) (sym e)

  -- all are answered "yes"
  module _ (none : 0 ≡ first_no all) where
    yeses : AllYes all
    unfolding closing_questions
    yeses = all_yes all tt (sym none)

    pub lots_kept : n ≤ max_lots
    unfolding closing_questions
    lots_kept = within_high 1 max_lots n (yes 7 all yeses)

    pub numberable : Numberable r.participants f.codes p
    unfolding closing_questions
    numberable =
        let st = ready_standing ready in
        counted st.backed.rules_ok st.limit (ltb-true p r.participants (yes 4 all yeses))

    module _ {o : Order} (entry : o ≡ closing_of day p side s n) where
      pub placeable : Placeable day o
      placeable = rw entry (closing_placeable day p side s n (sym none))

      pub waits : {f' : Floor} {x : Answer} → x ≡ (placed day o).answer → day_of r f' ≡ (placed day o).day
          → Carries r f [] call f' [] x
      unfolding questions effect placed
      waits {f'} {x} answer after =
          rw answer
          (carries_accept r f [] call ready.sound f' [] _ (sym none) (rw entry) (rw entry at after) refl tt)
