-- Laws of acts: what a refused and an accepted one leave, a trading day's call on a ledger, and the opening.
use Prim.Native.Nat.{ℕ, zero, suc, ◌≤◌}
use native.Mathlib.Omega.{arith}
use mathlib.Core.Path.{◌≡◌, refl, ap, sym, ◌∙◌}
use mathlib.Core.List.{List, [], ◌∷◌, ◌++◌}
use mathlib.Core.Bool.{true, false}
use lib.ListN.{length}
use borrow.Author.Tests.{leb-true}
use Rattle.market.specs.declared.Answer.{Answer}
use Rattle.market.specs.declared.Answer.TheVariants.{Done, Refused}
use Rattle.market.specs.declared.Rules.{Rules}
use Rattle.market.specs.declared.Order.{Order}
use Rattle.market.specs.Limits.{last_day}
use Rattle.market.specs.Day.{Day}
use Rattle.market.specs.Sound.{sound}
use Rattle.market.specs.Waiting.{Index, nowhere, somewhere}
use Rattle.market.specs.TradeList.{Trade, written}
use Rattle.market.specs.Answers.{is_done}
use Rattle.market.specs.Calls.{Call}
use Rattle.market.specs.Questions.{Question, ask, first_no, questions}
use Rattle.market.specs.Entry.{placed}
use Rattle.market.specs.Offers.{counter_offer, offered, offered_by, offer_of}
use Rattle.market.specs.Step.{step}
use Rattle.market.specs.Opening.{opening, opening_by, opening_questions}
use Rattle.market.specs.Ledger.{Ledger, ledger_sound, records_sound, with_day}
use Rattle.market.specs.Acts.{Act, day, new_day, offer, second_part}
use Rattle.market.specs.ActStep.{ActResult, act_by, act_effect, act_questions, act_result, act_step, all_act_questions}
use Rattle.market.specs.ActStep.{ledger_questions, on_table, open_ledger, open_ledger_by, opened_ledger}
use Rattle.market.proofs.Logic.{and_true, never}
use Rattle.market.proofs.Questions.{all_yes, hides, passes, yes}
use Rattle.market.proofs.Known.{RulesOk}
use Rattle.market.proofs.Opening.{accepted}
use Rattle.market.proofs.Step.{effect_refused, step_accepted, step_refused}

-- the two parts of soundness
pub ledger_day : (l : Ledger) → ledger_sound l ≡ true → sound l.day ≡ true
unfolding ledger_sound
ledger_day l e = (and_true e).0

pub ledger_records : (l : Ledger) → ledger_sound l ≡ true → records_sound l.day.rules l.date l.deals ≡ true
unfolding ledger_sound
ledger_records l e = (and_true e).1

pub act_refused : (l : Ledger) (v : List ℕ) (a : Act) (n : ℕ) → ledger_sound l ≡ true
    → first_no (act_questions l (length v) a) ≡ suc n
    → act_step l v a ≡ record { answer = Refused (suc n) 0; ledger = l; list = v }
unfolding act_step act_result
act_refused l v a n t e = rw (t, e)

pub act_accepted : (l : Ledger) (v : List ℕ) (a : Act) → ledger_sound l ≡ true → first_no (act_questions l (length v) a) ≡ 0
    → act_step l v a
    ≡ record { answer = (act_effect l a).answer; ledger = (act_effect l a).ledger; list = written (act_effect l a).trades v }
unfolding act_step act_result
act_accepted l v a t e = rw (t, e)

pub act_unsound : (l : Ledger) (v : List ℕ) (a : Act) → ledger_sound l ≡ false
    → act_step l v a ≡ record { answer = Refused 1 0; ledger = l; list = v }
unfolding act_step act_result
act_unsound l v a t = rw t

-- a call of the trading day on a sound ledger: the day's step, and the records as they were
pub lifted : (l : Ledger) (v : List ℕ) (c : Call) → ledger_sound l ≡ true
    → act_step l v (day c)
    ≡ record {
      answer = (step l.day v c).answer;
      ledger = with_day l (step l.day v c).day;
      list = (step l.day v c).list;
    }
unfolding act_questions act_effect
lifted l v c t = go (first_no (questions l.day (length v) c)) refl
  where
    go : (n : ℕ) → first_no (questions l.day (length v) c) ≡ n
        → act_step l v (day c)
        ≡ record {
          answer = (step l.day v c).answer;
          ledger = with_day l (step l.day v c).day;
          list = (step l.day v c).list;
        }
    go zero e = rw (step_accepted l.day v c (ledger_day l t) e) (act_accepted l v (day c) t e)
    go (suc n) e = rw (step_refused l.day v c n (ledger_day l t) e) (act_refused l v (day c) n t e)

-- an accepted offer is registered under its code, and its trades are counted
pub offered_answer : (d : Day) (e : Order) (P : Answer → Type 0)
    → ((filled left : ℕ) → P (Done e.code filled left (length (offered d e).trades))) → P (offered d e).answer
unfolding offered placed
offered_answer d e P = go (counter_offer e d.waiting)
  where
    go : (x : Index) → ((filled left : ℕ) → P (Done e.code filled left (length (offered_by x d e).trades)))
        → P (offered_by x d e).answer
    go nowhere h = h 0 e.lots
    go (somewhere i) h = h e.lots 0

-- "Any other refusal hands the state back as given and writes no trade"
act_effect_refused : (l : Ledger) (a : Act) → is_done (act_effect l a).answer ≡ false
    → ((act_effect l a).ledger ≡ l) × ((act_effect l a).trades ≡ [])
unfolding act_effect
act_effect_refused l (day c) e =
    let h = effect_refused l.day c e in
    (ap (with_day l) h.0, h.1)
act_effect_refused l (offer p m rate term) e =
    never (sym e ∙ offered_answer l.day (offer_of l.day p m rate term) (λ a. is_done a ≡ true) (λ filled left. refl))
act_effect_refused l (second_part place) e = never (sym e)
act_effect_refused l (new_day date) e = never (sym e)

pub act_unchanged : (l : Ledger) (v : List ℕ) (a : Act) → is_done (act_step l v a).answer ≡ false
    → ((act_step l v a).ledger ≡ l) × ((act_step l v a).list ≡ v)
unfolding act_step act_result
act_unchanged l v a e = go (first_no (all_act_questions l (length v) a)) e
  where
    go : (n : ℕ) → is_done (act_by n l (act_effect l a)).answer ≡ false
        → ((act_by n l (act_effect l a)).ledger ≡ l) × (written (act_by n l (act_effect l a)).trades v ≡ v)
    go zero e = let h = act_effect_refused l a e in (h.0, ap (λ (ts : List Trade). written ts v) h.1)
    go (suc n) e = (refl, refl)

-- on a date of the table the opening asks what that of a day asks
dated : (r : Rules) (date : ℕ) → on_table date ≡ true → first_no (ledger_questions r date) ≡ first_no (opening_questions r)
dated r date t = go (first_no qs) refl
  where
    qs : List Question
    qs = opening_questions r

    late : List Question
    late = ask 24 (on_table date) ∷ []

    go : (n : ℕ) → first_no qs ≡ n → first_no (qs ++ late) ≡ first_no qs
    go zero e = passes qs late (all_yes qs tt e) ∙ rw (t, e)
    go (suc n) e = hides qs late (omega arith)

-- and does what that does
pub record OpensDay (r : Rules) (date : ℕ) : Type 0 where
  pub answer : (open_ledger r date).answer ≡ (opening r).answer
  pub day : (open_ledger r date).ledger.day ≡ (opening r).day

pub opening_plain : (r : Rules) (date : ℕ) → on_table date ≡ true → OpensDay r date
unfolding open_ledger opened_ledger opening
opening_plain r date t =
    let same = ap (open_ledger_by r date) (dated r date t) in
    let h = go (first_no (opening_questions r)) in
    record {
      answer = ap (λ (x : ActResult). x.answer) same ∙ h.0;
      day = ap (λ (x : ActResult). x.ledger.day) same ∙ h.1;
    }
  where
    go : (n : ℕ)
        → ((open_ledger_by r date n).answer ≡ (opening_by r n).answer) × ((open_ledger_by r date n).ledger.day ≡ (opening_by r n).day)
    go zero = (refl, refl)
    go (suc n) = (refl, refl)

-- an accepted opening hands back the opened ledger; its rules are sound, its date is in the table
pub record AcceptedLedger (r : Rules) (date : ℕ) : Type 0 where
  pub rules : RulesOk r
  pub inside : date ≤ last_day
  pub ledger : (open_ledger r date).ledger ≡ opened_ledger r date

pub accepted_ledger : (r : Rules) (date : ℕ) → is_done (open_ledger r date).answer ≡ true → AcceptedLedger r date
unfolding open_ledger
accepted_ledger r date e = go (first_no (ledger_questions r date)) refl e
  where
    go : (n : ℕ) → first_no (ledger_questions r date) ≡ n → is_done (open_ledger_by r date n).answer ≡ true
        → AcceptedLedger r date
    go zero q done =
        let qs = ledger_questions r date in
        let t = yes 24 qs (all_yes qs tt q) in
        let plain = opening_plain r date t in
        record {
          rules = (accepted r (rw (← plain.answer) e)).rules;
          inside = leb-true date last_day t;
          ledger = rw q;
        }
    go (suc n) q done = never done
