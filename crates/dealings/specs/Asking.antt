-- The questions of an offer on a lent floor and lent records.
use Rattle.std.specs.Prelude.{ℕ, ◌≤◌, ◌≡◌, List, [], ◌∷◌, get_or, length}
use Rattle.market.specs.declared.Floor.{Floor}
use Rattle.market.specs.declared.Kind.TheVariants as kind
use Rattle.market.specs.declared.Order.{Order}
use Rattle.market.specs.declared.Records.{Records}
use Rattle.market.specs.declared.Rules.{Rules}
use Rattle.market.specs.Limits.{lent_at_least, max_deals, max_lots, max_offer_rate, max_own_codes, max_term, max_waiting}
use Rattle.market.specs.Tests.{◌<?◌}
use Rattle.market.specs.Day.{row}
use Rattle.market.specs.View.{day_of}
use Rattle.market.specs.Sound.{price_sound}
use Rattle.market.specs.Questions.{Question, ask, covered, first_no}
use Rattle.market.specs.Deals.{loan_sound, term_sound}
use Rattle.market.specs.Ledger.{ledger_of}
use Rattle.market.specs.Acts.{Act, offer}
use Rattle.market.specs.ActStep.{offer_questions}
use Rattle.market.specs.LedgerParts.{ReadyLedger}
use Rattle.dealings.specs.declared.Proposal.{Proposal}

-- the act that calls it
abbrev pub proposed : Proposal → Act
proposed q = offer q.participant q.ticket q.rate q.term

-- the offer before it is numbered
abbrev pub offer_claim : Proposal → Order
offer_claim q = record {
  code = 0;
  participant = q.participant;
  side = q.ticket.side;
  arrival = 0;
  security = q.ticket.security;
  lots = q.ticket.lots;
  kind = kind.Offer q.rate q.term q.ticket.price;
}

-- its numbers are those of an order that waits
pub record Narrow (q : Proposal) : Type 0 where
  pub lots : q.ticket.lots ≤ max_lots
  pub rate : q.rate ≤ max_offer_rate
  pub term : q.term ≤ max_term

-- the first "no" of an offer's questions from 4 on
abbrev pub offer_no : Rules → Floor → Records → Proposal → ℕ
offer_no r f z q = first_no (offer_questions (ledger_of r f z) q.participant q.ticket q.rate q.term)

-- those of them that need its security's row of the table, and its participant to be known
abbrev pub loan_questions : Rules → Floor → Records → Proposal → List Question
loan_questions r f z q =
    ask 8 (price_sound (row r q.ticket.security) q.ticket.price) ∷
    ask 24 (term_sound z.date q.term) ∷
    ask 25 (loan_sound (row r q.ticket.security) q.ticket.price q.ticket.lots q.rate) ∷
    ask 12 (f.count <? max_waiting) ∷
    ask 26 (z.count <? max_deals) ∷
    ask 13 (get_or f.codes q.participant 0 <? max_own_codes) ∷
    ask 14 (covered (day_of r f) (offer_claim q)) ∷ []

-- on a sound ledger, with the list v lent, all of them and question 2 are answered "yes"
pub record Accepted (r : Rules) (f : Floor) (z : Records) (q : Proposal) (v : List ℕ) : Type 0 where
  pub ready : ReadyLedger r f z
  pub lent : lent_at_least ≤ length v
  pub asked : offer_no r f z q ≡ 0
