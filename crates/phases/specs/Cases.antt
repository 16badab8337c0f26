-- What question 6 decides, over all phases and calls.
use Rattle.std.specs.Prelude.{ℕ, ◌≡◌, List, [], ◌∷◌, ◌++◌, true, false, cond, length}
use Rattle.market.specs.declared.Access.{Access}
use Rattle.market.specs.declared.Access.TheVariants.{ClosingOrder, EndCollecting, EndSession}
use Rattle.market.specs.declared.Access.TheVariants.{Member, NewDay, Offer, StartClosing, StartCollecting}
use Rattle.market.specs.declared.Answer.{Answer}
use Rattle.market.specs.declared.Answer.TheVariants.{Refused}
use Rattle.market.specs.declared.Phase.{Phase}
use Rattle.market.specs.declared.Ticket.{Ticket}
use Rattle.market.specs.Tests.{◌=?◌}
use Rattle.market.specs.declared.Asset.{Asset}
use Rattle.market.specs.Day.{Day, with_phase}
use Rattle.market.specs.Answers.{numbers_of}
use Rattle.market.specs.Calls.{Call, cancel, closing_order, decrease, end_collecting, end_session, increase}
use Rattle.market.specs.Calls.{linked, order, start_closing, start_collecting}
use Rattle.market.specs.Phases.{admits, order_access}
use Rattle.market.specs.Questions.{Question, first_no, member_questions, questions}
use Rattle.market.specs.Step.{all_questions, step}
use Rattle.market.specs.Ledger.{Ledger, ledger_sound}
use Rattle.market.specs.Acts.{Act, day, new_day, offer, second_part}
use Rattle.market.specs.ActStep.{act_step, all_act_questions}

-- the questions in front of question 6
abbrev pub earlier : List Question → List Question
earlier [] = []
earlier (q ∷ qs) = cond (q.number =? 6) [] (q ∷ earlier qs)

-- "6 exactly where question 6 says no, once the questions before it say yes"
pub record Decided (x : Phase) (a : Access) (before : List Question) (answer : Answer) (place : ℕ) : Type 0 where
  pub refuses : admits x a ≡ false → first_no before ≡ 0 → answer ≡ Refused 6 place
  pub clears : admits x a ≡ true → (numbers_of answer).refusal ≡ 6 → ⊥

abbrev pub AskedSix : Day → List ℕ → Call → Access → Type 0
AskedSix d l c a = Decided d.phase a (earlier (all_questions d (length l) c)) (step d l c).answer 0

abbrev pub NeverSix : Day → List ℕ → Call → Type 0
NeverSix d l c = (numbers_of (step d l c).answer).refusal ≡ 6 → ⊥

-- of a group each member is asked, the first at place 1; where there is none, nobody is
abbrev pub MembersSix : Day → List ℕ → ℕ → ℕ → List Ticket → Type 0
MembersSix d l p n [] = NeverSix d l (linked p n [])
MembersSix d l p n (m ∷ ms) =
    let group = linked p n (m ∷ ms) in
    Decided d.phase Member (earlier (all_questions d (length l) group ++ member_questions d p m))
    (step d l group).answer 1

-- what question 6 decides for each call, in whatever phase the day is
abbrev pub SixExactly : Day → List ℕ → Call → Type 0
SixExactly d l (increase x p column a) = NeverSix d l (increase x p column a)
SixExactly d l (decrease x p column a) = NeverSix d l (decrease x p column a)
SixExactly d l (order p m k) = AskedSix d l (order p m k) (order_access k)
SixExactly d l (cancel p code) = NeverSix d l (cancel p code)
SixExactly d l (linked p n ms) = MembersSix d l p n ms
SixExactly d l start_closing = AskedSix d l start_closing StartClosing
SixExactly d l (closing_order p side s lots) = AskedSix d l (closing_order p side s lots) ClosingOrder
SixExactly d l end_session = AskedSix d l end_session EndSession
SixExactly d l start_collecting = AskedSix d l start_collecting StartCollecting
SixExactly d l end_collecting = AskedSix d l end_collecting EndCollecting

-- and for each act: a call of the trading day answers on a sound ledger as on its day; a second part comes "on a call in any
-- phase" (T-06)
abbrev pub AskedActSix : Ledger → List ℕ → Act → Access → Type 0
AskedActSix l v a x = Decided l.day.phase x (earlier (all_act_questions l (length v) a)) (act_step l v a).answer 0

abbrev pub ActSixExactly : Ledger → List ℕ → Act → Type 0
ActSixExactly l v (day c) =
    (ledger_sound l ≡ true → (act_step l v (day c)).answer ≡ (step l.day v c).answer) × SixExactly l.day v c
ActSixExactly l v (offer p m rate term) = AskedActSix l v (offer p m rate term) Offer
ActSixExactly l v (second_part place) = (numbers_of (act_step l v (second_part place)).answer).refusal ≡ 6 → ⊥
ActSixExactly l v (new_day date) = AskedActSix l v (new_day date) NewDay

-- "Reserves move in every phase"; cancelling takes an order off "in every phase": their questions are the same in each
pub record InEveryPhase (d : Day) (x : Phase) (lent : ℕ) : Type 0 where
  pub increases : (a : Asset) (p column n : ℕ)
      → questions (with_phase d x) lent (increase a p column n) ≡ questions d lent (increase a p column n)
  pub decreases : (a : Asset) (p column n : ℕ)
      → questions (with_phase d x) lent (decrease a p column n) ≡ questions d lent (decrease a p column n)
  pub cancels : (p code : ℕ) → questions (with_phase d x) lent (cancel p code) ≡ questions d lent (cancel p code)
