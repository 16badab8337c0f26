-- Every act keeps the book and the ledger together.
use Prim.Native.Nat.{ℕ, zero, suc, ◌-◌, ◌<◌}
use native.Mathlib.Omega.{arith}
use mathlib.Core.Path.{◌≡◌, refl}
use mathlib.Core.List.{List, []}
use mathlib.Core.Bool.{true}
use lib.ListN.{length}
use borrow.Author.Tests.{leb-true, ltb-true}
use Rattle.market.specs.declared.Answer.{Answer}
use Rattle.market.specs.declared.Answer.TheVariants.{Done, Refused}
use Rattle.market.specs.declared.Rules.{Rules}
use Rattle.market.specs.declared.Ticket.{Ticket}
use Rattle.market.specs.Limits.{last_day}
use Rattle.market.specs.Day.{Day}
use Rattle.market.specs.TradeList.{written}
use Rattle.market.specs.Calls.{Call}
use Rattle.market.specs.Step.{effect}
use Rattle.market.specs.Offers.{offer_of, offered}
use Rattle.market.specs.Questions.{enough_lent, first_no}
use Rattle.market.specs.Deals.{deal_at, deal_sound, no_deal}
use Rattle.market.specs.Ledger.{Ledger, ledger_sound, with_day}
use Rattle.market.specs.Acts.{Act, day, new_day, offer, second_part}
use Rattle.market.specs.ActStep.{ActResult, act_by, act_effect, act_questions, act_result, act_step, all_act_questions}
use Rattle.market.specs.ActStep.{offer_questions}
use Rattle.market.proofs.Logic.{and_true, within_high, within_low}
use Rattle.market.proofs.Lists.{all_at}
use Rattle.market.proofs.Questions.{all_yes, yes, yes_rest}
use Rattle.market.proofs.Phases.{new_day_phase}
use Rattle.market.proofs.Deals.{deal_ok, records_end, records_later}
use Rattle.market.proofs.Acts.{offered_answer}
use Rattle.invariant.proofs.Offers.{offer_placeable}
use Rattle.conservation.specs.Book.{feed, read_trades}
use Rattle.conservation.proofs.Good.{Good}
use Rattle.conservation.proofs.Offers.{offered_good}
use Rattle.conservation.proofs.Steps.{effect_good, read_written}
use Rattle.journal.specs.LedgerBook.{LedgerBook, acted, feed_act}
use Rattle.journal.proofs.Good.{GoodLedger}
use Rattle.journal.proofs.Deals.{begins_good, second_good}
use Rattle.journal.proofs.Offers.{offered_records}

module _ {U : Type 0} {r : Rules} (j : LedgerBook) (l : Ledger) (v : List ℕ) (g : GoodLedger U r j l) where
  -- a call of the trading day leaves the records as they were
  day_good : (c : Call) (d' : Day) (answer : Answer) (w : List ℕ) → Good U r (feed r j.book c answer w) d'
      → GoodLedger U r (feed_act r j (day c) answer w) (with_day l d')
  unfolding acted
  day_good c d' (Refused number at) w h = record { good = h; date = g.date; deals = g.deals; records = g.records }
  day_good c d' (Done code filled left trades) w h =
      record { good = h; date = g.date; deals = g.deals; records = g.records }

  -- an offer waits, or its first part opens a deal
  offer_good : (p : ℕ) (m : Ticket) (rate term : ℕ) → first_no (offer_questions l p m rate term) ≡ 0 →
      let x : ActResult = act_effect l (offer p m rate term) in
      GoodLedger U r (feed_act r j (offer p m rate term) x.answer (written x.trades v)) x.ledger
  unfolding act_effect acted
  offer_good p m rate term e =
      let o = offer_of l.day p m rate term in
      let ts = (offered l.day o).trades in
      let x : ActResult = act_effect l (offer p m rate term) in
      offered_answer l.day o (λ a. GoodLedger U r (feed_act r j (offer p m rate term) a (written ts v)) x.ledger)
      (λ filled left. record {
        good =
            rw (read_written ts v)
            (offered_good j.book l.day o g.good tt (offer_placeable l p m rate term e));
        date = g.date;
        deals = rw (read_written ts v, g.date, g.deals);
        records =
            rw g.good.agree.rules
            (offered_records l p m rate term e g.good.standing (rw (← g.good.agree.rules) g.records));
      })

  -- a second part ends a deal that was sound
  second_part_good : (place : ℕ) → first_no (act_questions l (length v) (second_part place)) ≡ 0
      → GoodLedger U r (acted r j 0 [] (second_part place)) (act_effect l (second_part place)).ledger
  unfolding act_questions act_effect acted
  second_part_good place e =
      let qs = act_questions l (length v) (second_part place) in
      let y = all_yes qs tt e in
      let deals = l.deals in
      let low = within_low 1 (length deals) place (yes 16 qs y) in
      let high = within_high 1 (length deals) place (yes 16 qs y) in
      let inside : place - 1 < length deals = omega arith in
      let x = deal_at deals place in
      let sound = all_at (λ x. deal_sound r x ≡ true) no_deal deals (place - 1) g.records.each inside in
      record {
        good =
            rw g.deals
            (second_good j.book l.day x g.good (deal_ok l.day.rules x (rw (← g.good.agree.rules) sound)) (yes 14 qs y));
        date = g.date;
        deals = rw g.deals;
        records = records_end r l.date deals (place - 1) g.records inside;
      }

  -- a new day keeps the deals
  new_day_good : (date : ℕ) → first_no (act_questions l (length v) (new_day date)) ≡ 0
      → GoodLedger U r (acted r j 0 [] (new_day date)) (act_effect l (new_day date)).ledger
  unfolding act_questions act_effect acted
  new_day_good date e =
      let qs = act_questions l (length v) (new_day date) in
      let y = all_yes qs tt e in
      let late = and_true (yes 24 qs y) in
      record {
        good = begins_good j.book l.day g.good (new_day_phase l.day.phase (yes 6 qs y));
        date = refl;
        deals = g.deals;
        records =
            records_later r l.date date l.deals g.records (omega (arith, ltb-true l.date date late.0))
            (leb-true date last_day late.1);
      }

  act_effect_good : (a : Act) → first_no (act_questions l (length v) a) ≡ 0 →
      let x : ActResult = act_effect l a in
      GoodLedger U r (feed_act r j a x.answer (written x.trades v)) x.ledger
  unfolding act_questions act_effect read_trades
  act_effect_good (day c) e =
      let x = effect l.day c in
      day_good c x.day x.answer (written x.trades v) (effect_good j.book l.day c v g.good e)
  act_effect_good (offer p m rate term) e =
      offer_good p m rate term (yes_rest (enough_lent (length v)) 2 (offer_questions l p m rate term) (omega arith) e)
  act_effect_good (second_part place) e = second_part_good place e
  act_effect_good (new_day date) e = new_day_good date e

  pub act_good : (a : Act)
      → GoodLedger U r (feed_act r j a (act_step l v a).answer (act_step l v a).list) (act_step l v a).ledger
  unfolding act_step act_result
  act_good a = go (first_no (all_act_questions l (length v) a)) refl
    where
      go : (n : ℕ) → first_no (all_act_questions l (length v) a) ≡ n →
          let x : ActResult = act_by n l (act_effect l a) in
          GoodLedger U r (feed_act r j a x.answer (written x.trades v)) x.ledger
      go zero e = act_effect_good a (yes_rest (ledger_sound l) 1 (act_questions l (length v) a) (omega arith) e)
      go (suc n) e = g
