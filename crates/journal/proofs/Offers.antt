-- An accepted offer keeps Good, and the deal that it may open is sound.
use Prim.Native.Nat.{ℕ}
use mathlib.Core.Path.{◌≡◌, refl, sym, subst}
use mathlib.Core.List.{List, [], ◌∷◌, ◌++◌, append-nil}
use mathlib.Core.Bool.{true}
use borrow.Author.Tests.{lt-ltb}
use Rattle.market.specs.declared.Deal.{Deal}
use Rattle.market.specs.declared.Ticket.{Ticket}
use Rattle.market.specs.TradeList.{Trade}
use Rattle.market.specs.Offers.{offer_of, offered}
use Rattle.market.specs.Questions.{first_no}
use Rattle.market.specs.Deals.{deal_of, deal_sound, deals_of}
use Rattle.market.specs.Ledger.{Ledger}
use Rattle.market.specs.ActStep.{offer_questions}
use Rattle.market.proofs.Logic.{both}
use Rattle.market.proofs.Questions.{all_yes, yes}
use Rattle.market.proofs.Deals.{RecordsOk, records_add}
use Rattle.invariant.specs.Standing.{Standing}
use Rattle.invariant.proofs.Offers.{AtMostOne, FirstOk, offer_placeable, offered_trades}

-- an offer whose questions are all answered "yes", on a ledger with sound records
module _ (l : Ledger) (p : ℕ) (m : Ticket) (rate term : ℕ) (e : first_no (offer_questions l p m rate term) ≡ 0) where
  first_sound : (t : Trade) → FirstOk l.day.rules (offer_of l.day p m rate term) t
      → deal_sound l.day.rules (deal_of l.date rate term t) ≡ true
  unfolding deal_sound offer_questions
  first_sound t h =
      let qs = offer_questions l p m rate term in
      let y = all_yes qs tt e in
      let r = l.day.rules in
      both (lt-ltb t.buyer r.participants h.buyer)
      (both (lt-ltb t.seller r.participants h.seller)
      (both (rw h.security (yes 5 qs y))
      (both (rw h.lots (yes 7 qs y))
      (both (rw (h.security, h.price) (yes 8 qs y))
      (both (yes 24 qs y) (rw (h.security, h.price, h.lots) (yes 25 qs y)))))))

  pub offered_records : Standing l.day → RecordsOk l.day.rules l.date l.deals
      → RecordsOk l.day.rules l.date
      (l.deals ++ deals_of l.date rate term (offered l.day (offer_of l.day p m rate term)).trades)
  unfolding offer_questions
  offered_records g ok =
      go (offered l.day (offer_of l.day p m rate term)).trades
      (offered_trades l.day (offer_of l.day p m rate term) g (offer_placeable l p m rate term e))
    where
      go : (ts : List Trade) → AtMostOne (FirstOk l.day.rules (offer_of l.day p m rate term)) ts
          → RecordsOk l.day.rules l.date (l.deals ++ deals_of l.date rate term ts)
      go [] h = subst (λ (x : List Deal). RecordsOk l.day.rules l.date x) (sym (append-nil l.deals)) ok
      go (t ∷ []) h =
          let qs = offer_questions l p m rate term in
          records_add l.day.rules l.date l.deals (deal_of l.date rate term t) ok (yes 26 qs (all_yes qs tt e))
          (first_sound t h) refl
      go (t ∷ s ∷ ts) h = absurd h
