-- How many trades an act makes: they fit the lent list, and the answer counts them.
use Prim.Native.Nat.{ℕ, zero, suc, ◌≤◌}
use native.Mathlib.Omega.{arith}
use mathlib.Core.Path.{◌≡◌, refl}
use mathlib.Core.List.{List, [], ◌∷◌}
use mathlib.Core.Bool.{true}
use lib.ListN.{length}
use Rattle.market.specs.declared.Rules.{Rules}
use Rattle.market.specs.declared.Ticket.{Ticket}
use Rattle.market.specs.Answers.{numbers_of}
use Rattle.market.specs.Offers.{offer_of, offered}
use Rattle.market.specs.Questions.{enough_lent, first_no}
use Rattle.market.specs.Ledger.{Ledger, ledger_sound}
use Rattle.market.specs.Acts.{Act, day, new_day, offer, second_part}
use Rattle.market.specs.ActStep.{act_by, act_effect, act_questions, act_result, all_act_questions, offer_questions}
use Rattle.market.proofs.Questions.{first_yes, yes_rest}
use Rattle.market.proofs.Acts.{offered_answer}
use Rattle.invariant.proofs.Offers.{AtMostOne, FirstOk, offer_placeable, offered_trades}
use Rattle.conservation.proofs.Counts.{Few, effect_counts, effect_few, few, no_trades}
use Rattle.journal.specs.LedgerBook.{LedgerBook}
use Rattle.journal.specs.SoundKept.{most_of}
use Rattle.journal.proofs.Good.{GoodLedger}

at_most_one : {A : Type 0} (P : A → Type 0) (l : List A) → AtMostOne P l → length l ≤ 1
at_most_one P [] h = omega arith
at_most_one P (x ∷ []) h = omega arith
at_most_one P (x ∷ y ∷ l) h = absurd h

module _ {U : Type 0} {r : Rules} (j : LedgerBook) (l : Ledger) (v : List ℕ) (g : GoodLedger U r j l) where
  offer_few : (p : ℕ) (m : Ticket) (rate term : ℕ) → enough_lent (length v) ≡ true
      → first_no (offer_questions l p m rate term) ≡ 0 → Few 1 (offered l.day (offer_of l.day p m rate term)).trades v
  offer_few p m rate term lent e =
      let o = offer_of l.day p m rate term in
      let ts = (offered l.day o).trades in
      few 1 ts v lent
      (at_most_one (FirstOk l.day.rules o) ts
      (offered_trades l.day o g.good.standing (offer_placeable l p m rate term e)))
      (omega arith)

  act_effect_few : (a : Act) → first_no (act_questions l (length v) a) ≡ 0 → Few (most_of l a) (act_effect l a).trades v
  unfolding act_questions act_effect
  act_effect_few (day c) e = effect_few j.book l.day c v g.good e
  act_effect_few (offer p m rate term) e =
      let qs = offer_questions l p m rate term in
      offer_few p m rate term (first_yes (enough_lent (length v)) 2 qs (omega arith) e)
      (yes_rest (enough_lent (length v)) 2 qs (omega arith) e)
  act_effect_few (second_part place) e = no_trades 0 v
  act_effect_few (new_day date) e = no_trades 0 v

  pub act_few : (a : Act) → Few (most_of l a) (act_result l (length v) a).trades v
  unfolding act_result
  act_few a = go (first_no (all_act_questions l (length v) a)) refl
    where
      go : (n : ℕ) → first_no (all_act_questions l (length v) a) ≡ n
          → Few (most_of l a) (act_by n l (act_effect l a)).trades v
      go zero e = act_effect_few a (yes_rest (ledger_sound l) 1 (act_questions l (length v) a) (omega arith) e)
      go (suc n) e = no_trades _ v

act_effect_counts : (l : Ledger) (a : Act) → (numbers_of (act_effect l a).answer).trades ≡ length (act_effect l a).trades
unfolding act_effect
act_effect_counts l (day c) = effect_counts l.day c
act_effect_counts l (offer p m rate term) =
    let o = offer_of l.day p m rate term in
    offered_answer l.day o (λ a. (numbers_of a).trades ≡ length (offered l.day o).trades) (λ filled left. refl)
act_effect_counts l (second_part place) = refl
act_effect_counts l (new_day date) = refl

pub act_counts : (l : Ledger) (lent : ℕ) (a : Act)
    → (numbers_of (act_result l lent a).answer).trades ≡ length (act_result l lent a).trades
unfolding act_result
act_counts l lent a = go (first_no (all_act_questions l lent a))
  where
    go : (n : ℕ)
        → (numbers_of (act_by n l (act_effect l a)).answer).trades ≡ length (act_by n l (act_effect l a)).trades
    go zero = act_effect_counts l a
    go (suc n) = refl
