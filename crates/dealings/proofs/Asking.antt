-- The questions of an offer, as the code asks them on a floor and records.
use Prim.Native.Nat.{ℕ, ◌≤◌, ◌<◌}
use native.Mathlib.Omega.{arith}
use mathlib.Core.Path.{◌≡◌, refl, sym, ◌∙◌}
use mathlib.Core.List.{List, ◌++◌}
use mathlib.Core.Bool.{true}
use borrow.Author.Tests.{leb-true}
use Rattle.market.specs.declared.Access.TheVariants.{Offer}
use Rattle.market.specs.declared.Floor.{Floor}
use Rattle.market.specs.declared.Records.{Records}
use Rattle.market.specs.declared.Rules.{Rules}
use Rattle.market.specs.declared.Security.{Security}
use Rattle.market.specs.declared.TimeInForce.TheVariants.{Kept}
use Rattle.market.specs.Limits.{max_lots, max_offer_rate, max_term}
use Rattle.market.specs.Day.{Day, row}
use Rattle.market.specs.View.{day_of}
use Rattle.market.specs.Phases.{admits}
use Rattle.market.specs.Sound.{price_sound}
use Rattle.market.specs.Questions.{Question, covered, first_no}
use Rattle.market.specs.Offers.{offer_of}
use Rattle.market.specs.Deals.{loan_sound, no_deal, term_sound}
use Rattle.market.specs.ActStep.{offer_questions}
use Rattle.market.proofs.Logic.{and_true, within_high}
use Rattle.market.proofs.Known.{price_bounds}
use Rattle.market.proofs.Questions.{all_yes, hides, passes}
use Rattle.market.proofs.View.{cut_length, first_length}
use Rattle.invariant.specs.Standing.{Standing}
use Rattle.waiting.specs.Claims.{Reckonable}
use Rattle.waiting.proofs.Claims.{known_reckons}
use Rattle.orders.specs.Entering.{Askable, open_questions}
use Rattle.orders.proofs.Asking.{askable}
use Rattle.dealings.specs.declared.Proposal.{Proposal}
use Rattle.dealings.specs.Asking.{Narrow, loan_questions, offer_claim, offer_no}

-- the numbers of an offer whose lots, term and rate are good
pub narrow : (row : Security) (date : ℕ) (q : Proposal) → q.ticket.lots ≤ max_lots → term_sound date q.term ≡ true
    → loan_sound row q.ticket.price q.ticket.lots q.rate ≡ true → Narrow q
unfolding term_sound loan_sound
narrow row date q few short loan = record {
  lots = few;
  rate = leb-true q.rate max_offer_rate (and_true loan).0;
  term = within_high 1 max_term q.term (and_true short).0;
}

module _ (r : Rules) (f : Floor) (z : Records) (q : Proposal) where
  abbrev d : Day
  d = day_of r f

  -- its need can be reckoned
  pub reckonable : Askable d q.participant q.ticket → price_sound (row r q.ticket.security) q.ticket.price ≡ true
      → Reckonable d (offer_claim q)
  reckonable a price =
      let limit = (price_bounds (row r q.ticket.security) q.ticket.price price).1 in
      known_reckons d (offer_claim q) a.rules a.participant a.security limit a.top

  abbrev early : List Question
  early = open_questions r (admits f.phase Offer) q.participant q.ticket.security q.ticket.lots

  abbrev later : List Question
  later = loan_questions r f z q

  -- no need reads code or arrival
  covered_is : covered d (offer_claim q) ≡ covered d (offer_of d q.participant q.ticket q.rate q.term)
  unfolding covered
  covered_is = refl

  -- the definition's questions are the early ones and the later ones
  asked_in_turn : offer_no r f z q ≡ first_no (early ++ later)
  unfolding offer_questions
  asked_in_turn = rw (first_length f.count f.orders, cut_length no_deal z.count z.deals, covered_is)

  pub no_early : (n : ℕ) → 0 < n → n ≡ first_no early → n ≡ offer_no r f z q
  no_early n some e = e ∙ sym (asked_in_turn ∙ hides early later (omega arith))

  -- none of the early ones is answered "no"
  module _ (none : 0 ≡ first_no early) where
    pub asks : Standing d → Askable d q.participant q.ticket
    asks st = askable r f q.participant q.ticket Offer Kept (sym none) st.backed.rules_ok

    pub no_later : first_no later ≡ offer_no r f z q
    no_later = sym (asked_in_turn ∙ passes early later (all_yes early tt (sym none)))
