-- From the questions and the entry of an offer on a sound ledger to the contract of the act.
use Prim.Native.Nat.{ℕ, ◌≤◌, ◌<◌}
use native.Mathlib.Omega.{arith}
use mathlib.Core.Path.{◌≡◌, refl, ap, sym, subst, ◌∙◌}
use mathlib.Core.List.{List, ◌++◌}
use lib.ListN.{length}
use borrow.Author.Tests.{le-leb, lt-leb, ltb-true}
use Rattle.market.specs.declared.Answer.{Answer}
use Rattle.market.specs.declared.Answer.TheVariants.{Done, Refused}
use Rattle.market.specs.declared.Deal.{Deal}
use Rattle.market.specs.declared.Floor.{Floor}
use Rattle.market.specs.declared.Order.{Order}
use Rattle.market.specs.declared.Records.{Records}
use Rattle.market.specs.declared.Refusal.{Refusal}
use Rattle.market.specs.declared.Rules.{Rules}
use Rattle.market.specs.Limits.{lent_at_least, max_deals, max_lots}
use Rattle.market.specs.Day.{Day, row}
use Rattle.market.specs.View.{day_of}
use Rattle.market.specs.TradeList.{Trade}
use Rattle.market.specs.Answers.{Result, numbers_of}
use Rattle.market.specs.Questions.{Question, first_no}
use Rattle.market.specs.Refusals.{number_of}
use Rattle.market.specs.Offers.{offer_of, offered}
use Rattle.market.specs.Deals.{deal_of, deals_of, no_deal}
use Rattle.market.specs.Ledger.{Ledger, first_deals, ledger_of}
use Rattle.market.specs.Acts.{Act}
use Rattle.market.specs.ActStep.{act_effect, act_questions, offer_questions}
use Rattle.market.specs.LedgerParts.{CarriesAct, ReadyLedger}
use Rattle.market.proofs.Known.{price_bounds}
use Rattle.market.proofs.Logic.{within_high}
use Rattle.market.proofs.Questions.{AllYes, all_yes, yes}
use Rattle.market.proofs.View.{cut_length}
use Rattle.market.proofs.Acts.{offered_answer}
use Rattle.market.proofs.LedgerParts.{act_accept, act_refuse}
use Rattle.invariant.specs.Standing.{Placeable, Standing}
use Rattle.invariant.proofs.Offers.{AtMostOne, FirstOk, offer_placeable, offered_trades}
use Rattle.codes.specs.Numbers.{Numberable}
use Rattle.orders.proofs.Asking.{counted, positive}
use Rattle.offers.specs.Offering.{Offerable, OfferedAs}
use Rattle.dealings.specs.declared.Proposal.{Proposal}
use Rattle.dealings.specs.Asking.{Accepted, Narrow, offer_no, proposed}
use Rattle.dealings.specs.Recording.{Adds, Limited, Readable, deals_in}
use Rattle.dealings.proofs.Asking.{narrow}
use Rattle.dealings.proofs.Recording.{deal_readable, deals_read}
use Rattle.dealings.proofs.Second.{day_right, rules_right, standing}

-- ledgers of equal parts
joined : {d d' : Day} {n n' : ℕ} {w w' : List Deal} → d ≡ d' → n ≡ n' → w ≡ w'
    → ◌≡◌ {A = Ledger} (record { day = d; date = n; deals = w }) (record { day = d'; date = n'; deals = w' })
joined ed en ew = cc

-- an offer is asked of a sound ledger, with the list v lent
module _ {r : Rules} {f : Floor} {z : Records} (ready : ReadyLedger r f z) (q : Proposal) (v : List ℕ) where
  abbrev act : Act
  act = proposed q

  pub refuse_short : length v < lent_at_least → CarriesAct r f z v act f z v (Refused 2 0)
  unfolding act_questions
  refuse_short h =
      act_refuse r f z v act ready.sound 2 (omega arith) (rw (lt-leb lent_at_least (length v) h))

  from_four : lent_at_least ≤ length v → first_no (act_questions (ledger_of r f z) (length v) act) ≡ offer_no r f z q
  unfolding act_questions
  from_four lent = rw (le-leb lent_at_least (length v) lent)

  pub refuse_asked : lent_at_least ≤ length v → (y : Refusal) → number_of y ≡ offer_no r f z q
      → CarriesAct r f z v act f z v (Refused (number_of y) 0)
  refuse_asked lent y e =
      act_refuse r f z v act ready.sound (number_of y) (positive y) (from_four lent ∙ sym e)

-- all its questions are answered "yes"
module _ {r : Rules} {f : Floor} {z : Records} {q : Proposal} {v : List ℕ} (a : Accepted r f z q v) where
  abbrev d : Day
  d = day_of r f

  abbrev l : Ledger
  l = ledger_of r f z

  abbrev e : Order
  e = offer_of d q.participant q.ticket q.rate q.term

  g : Standing d
  g = standing r f z a.ready

  abbrev asked : List Question
  asked = offer_questions l q.participant q.ticket q.rate q.term

  yeses : AllYes asked
  unfolding offer_questions
  yeses = all_yes asked tt a.asked

  pub numberable : Numberable r.participants f.codes q.participant
  unfolding offer_questions
  numberable =
      counted g.backed.rules_ok g.limit (ltb-true q.participant r.participants (yes 4 asked yeses))

  pub narrows : Narrow q
  unfolding offer_questions
  narrows =
      narrow (row r q.ticket.security) z.date q
      (within_high 1 max_lots q.ticket.lots (yes 7 asked yeses)) (yes 24 asked yeses) (yes 25 asked yeses)

  security : q.ticket.security < r.securities
  unfolding offer_questions
  security = ltb-true q.ticket.security r.securities (yes 5 asked yeses)

  pub deals_left : z.count < max_deals
  unfolding offer_questions
  deals_left =
      omega (arith, ltb-true (length (first_deals z.count z.deals)) max_deals (yes 26 asked yeses), cut_length no_deal z.count z.deals)

  placeable : Placeable d e
  placeable = offer_placeable l q.participant q.ticket q.rate q.term a.asked

  pub offerable : {o : Order} → o ≡ e → Offerable r f o v
  offerable entry = rw entry (record { standing = g; placeable = placeable; lent = omega (arith, a.lent) })

  -- the deal of a trade that it makes
  limited : (t : Trade) → FirstOk r e t → Limited (deal_of z.date q.rate q.term t)
  unfolding offer_questions
  limited t h =
      let ok = rules_right r f z a.ready in
      record {
        price = omega (arith, h.price, price_bounds _ _ (yes 8 asked yeses));
        first = day_right r f z a.ready;
        lots = omega (arith, h.lots, narrows.lots);
        rate = narrows.rate;
        term = narrows.term;
        buyer = omega (arith, h.buyer, ok.participants);
        seller = omega (arith, h.seller, ok.participants);
        security = omega (arith, h.security, security, ok.securities);
      }

  -- it has entered, and so many trades are counted
  module _ {o : Order} (entry : o ≡ e) {f' : Floor} {v' : List ℕ} {x : Answer} (offers : OfferedAs (offered d o) r v f' v' x) {made : ℕ}
      (count : made ≡ (numbers_of x).trades) where
    abbrev result : Result
    result = offered d e

    done : OfferedAs result r v f' v' x
    done = subst (λ (y : Order). OfferedAs (offered d y) r v f' v' x) entry offers

    trades : AtMostOne (FirstOk r e) result.trades
    trades = offered_trades d e g placeable

    made_is : made ≡ length result.trades
    made_is =
        count ∙ ap (λ (y : Answer). (numbers_of y).trades) done.answer
        ∙ offered_answer d e (λ y. (numbers_of y).trades ≡ length result.trades) (λ filled left. refl)

    pub readable : 0 < made → Readable z.date q.rate q.term v'
    readable h =
        subst (Readable z.date q.rate q.term) (sym done.list)
        (deal_readable z.date q.rate q.term (FirstOk r e) limited result.trades v trades (omega (arith, made_is)))

    read : deals_in made z.date q.rate q.term v' ≡ deals_of z.date q.rate q.term result.trades
    read = rw (made_is, done.list) (deals_read z.date q.rate q.term (FirstOk r e) result.trades v trades)

    pub offer_done : {z' : Records} → Adds z (deals_in made z.date q.rate q.term v') z' → CarriesAct r f z v (proposed q) f' z' v' x
    unfolding act_effect
    offer_done {z'} adds =
        rw done.answer
        (offered_answer d e (λ y. y ≡ result.answer → CarriesAct r f z v (proposed q) f' z' v' y)
        (λ filled left answer.
        act_accept r f z v (proposed q) a.ready.sound f' z' v' (Done e.code filled left (length result.trades))
        (from_four a.ready q v a.lent ∙ a.asked) answer
        (joined done.day adds.date (adds.deals ∙ ap (λ (w : List Deal). first_deals z.count z.deals ++ w) read)) done.list tt tt)
        refl)
