-- The questions of each act, what it does, and the step that joins them: of a trading day's call those of `Step`.
use Rattle.std.specs.Prelude.{ℕ, zero, suc, List, [], ◌∷◌, ◌++◌, Bool, length}
use Rattle.market.specs.declared.Access.TheVariants.{NewDay, Offer}
use Rattle.market.specs.declared.Answer.{Answer}
use Rattle.market.specs.declared.Answer.TheVariants.{Done, Refused}
use Rattle.market.specs.declared.Deal.{Deal}
use Rattle.market.specs.declared.Rules.{Rules}
use Rattle.market.specs.declared.Ticket.{Ticket}
use Rattle.market.specs.Limits.{last_day}
use Rattle.market.specs.Tests.{◌<?◌, ◌and◌, ◌≤?◌, known, within}
use Rattle.market.specs.Day.{Day, row}
use Rattle.market.specs.Codes.{code_left}
use Rattle.market.specs.Sound.{lots_sound, price_sound}
use Rattle.market.specs.TradeList.{Trade, written}
use Rattle.market.specs.Answers.{Result}
use Rattle.market.specs.Phases.{admits}
use Rattle.market.specs.Questions.{Question, ask, covered, enough_lent, first_no, has_room, questions}
use Rattle.market.specs.Offers.{offer_of, offered}
use Rattle.market.specs.Step.{effect}
use Rattle.market.specs.Opening.{no_rules, opened, opening_questions, place_of}
use Rattle.market.specs.Deals.{begins, covers_back, deal_at, deals_of, deals_room, due_day, end_deal, loan_sound}
use Rattle.market.specs.Deals.{second_paid, term_sound}
use Rattle.market.specs.Ledger.{Ledger, ledger_sound}
use Rattle.market.specs.Acts.{Act, day, new_day, offer, second_part}

-- of an offer from question 4 on: "the questions of a kept order", with 24 and 25 "in this order after 8", 26 "before 13"
unfoldable pub offer_questions : Ledger → ℕ → Ticket → (rate term : ℕ) → List Question
offer_questions l p m rate term =
    let d : Day = l.day in
    ask 4 (known p d.rules.participants) ∷
    ask 5 (known m.security d.rules.securities) ∷
    ask 6 (admits d.phase Offer) ∷
    ask 7 (lots_sound m.lots) ∷
    ask 8 (price_sound (row d.rules m.security) m.price) ∷
    ask 24 (term_sound l.date term) ∷
    ask 25 (loan_sound (row d.rules m.security) m.price m.lots rate) ∷
    ask 12 (has_room d) ∷
    ask 26 (deals_room l.deals) ∷
    ask 13 (code_left d p) ∷
    ask 14 (covered d (offer_of d p m rate term)) ∷ []

-- 24. "a date outside the table"
abbrev pub on_table : ℕ → Bool
on_table date = date ≤? last_day

-- the table after question 1: lent is how many numbers are lent
unfoldable pub act_questions : Ledger → ℕ → Act → List Question
act_questions l lent (day c) = questions l.day lent c
act_questions l lent (offer p m rate term) =
    ask 2 (enough_lent lent) ∷ offer_questions l p m rate term
act_questions l lent (second_part place) =
    ask 16 (within 1 (length l.deals) place) ∷
    ask 24 (due_day (deal_at l.deals place) ≤? l.date) ∷
    ask 14 (covers_back l.day (deal_at l.deals place)) ∷ []
act_questions l lent (new_day date) =
    ask 6 (admits l.day.phase NewDay) ∷
    ask 24 (l.date <? date and on_table date) ∷ []

-- answer, ledger and trades of an act
pub record ActResult : Type 0 where
  pub answer : Answer
  pub ledger : Ledger
  pub trades : List Trade

-- a refusal hands the ledger back as given
abbrev pub refused_act : Ledger → ℕ → ℕ → ActResult
refused_act l number place = record { answer = Refused number place; ledger = l; trades = [] }

-- "answers zeros and writes no trade"
abbrev pub zeros_act : Ledger → ActResult
zeros_act l = record { answer = Done 0 0 0 0; ledger = l; trades = [] }

-- what came of the day, with these deals
abbrev pub kept : Ledger → Result → List Deal → ActResult
kept l r deals = record {
  answer = r.answer;
  ledger = record { day = r.day; date = l.date; deals = deals };
  trades = r.trades;
}

-- an accepted offer: a first part opens a deal, which goes last
abbrev pub offered_on : Ledger → (rate term : ℕ) → Result → ActResult
offered_on l rate term r = kept l r (l.deals ++ deals_of l.date rate term r.trades)

-- what each act does where its questions are all answered "yes"
unfoldable pub act_effect : Ledger → Act → ActResult
act_effect l (day c) = kept l (effect l.day c) l.deals
act_effect l (offer p m rate term) = offered_on l rate term (offered l.day (offer_of l.day p m rate term))
act_effect l (second_part place) =
    zeros_act (record {
      day = second_paid l.day (deal_at l.deals place);
      date = l.date;
      deals = end_deal l.deals place;
    })
act_effect l (new_day date) = zeros_act (record { day = begins l.day; date = date; deals = l.deals })

-- the result where the first "no" is 0, else the refusal with that number
abbrev pub act_by : ℕ → Ledger → ActResult → ActResult
act_by zero l r = r
act_by (suc n) l r = refused_act l (suc n) 0

-- 1. "Is the state sound?", asked of every act before its own questions
abbrev pub all_act_questions : Ledger → ℕ → Act → List Question
all_act_questions l lent a = ask 1 (ledger_sound l) ∷ act_questions l lent a

-- the questions, then the effect
unfoldable pub act_result : Ledger → ℕ → Act → ActResult
act_result l lent a = act_by (first_no (all_act_questions l lent a)) l (act_effect l a)

-- answer, ledger and lent list after an act
pub record ActReply : Type 0 where
  pub answer : Answer
  pub ledger : Ledger
  pub list : List ℕ

-- the definition of an act on a ledger with a lent list
unfoldable pub act_step : Ledger → List ℕ → Act → ActReply
act_step l v a =
    let r = act_result l (length v) a in
    record { answer = r.answer; ledger = r.ledger; list = written r.trades v }

-- "The opening gets a date, 0 to 146,096": no deal is open
unfoldable pub opened_ledger : Rules → ℕ → Ledger
opened_ledger r date = record { day = opened r; date = date; deals = [] }

-- "24 after 22 at the opening"
abbrev pub ledger_questions : Rules → ℕ → List Question
ledger_questions r date = opening_questions r ++ (ask 24 (on_table date) ∷ [])

abbrev pub open_ledger_by : Rules → ℕ → ℕ → ActResult
open_ledger_by r date zero = zeros_act (opened_ledger r date)
open_ledger_by r date (suc number) = refused_act (opened_ledger no_rules 0) (suc number) (place_of r (suc number))

-- the definition of the opening
unfoldable pub open_ledger : Rules → ℕ → ActResult
open_ledger r date = open_ledger_by r date (first_no (ledger_questions r date))
