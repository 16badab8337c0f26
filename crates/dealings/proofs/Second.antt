-- Second parts and new days on a sound ledger.
use Prim.Native.Nat.{ℕ, ◌+◌, ◌-◌, ◌≤◌, ◌<◌}
use native.Mathlib.Omega.{arith}
use mathlib.Core.Path.{◌≡◌, refl, sym, subst, ◌∙◌}
use mathlib.Core.List.{List}
use mathlib.Core.Bool.{Bool, true, false}
use lib.Dec.{eqb}
use lib.ListN.{get_or, length, replicate}
use borrow.Author.Tests.{eqb-true, eqb-false, le-leb, leb-true, le-ltb, lt-leb, lt-ltb}
use Rattle.market.specs.declared.Access.TheVariants.{NewDay}
use Rattle.market.specs.declared.Answer.TheVariants.{Done, Refused}
use Rattle.market.specs.declared.Deal.{Deal}
use Rattle.market.specs.declared.Floor.{Floor}
use Rattle.market.specs.declared.Phase.TheVariants.{Open}
use Rattle.market.specs.declared.Records.{Records}
use Rattle.market.specs.declared.Rules.{Rules}
use Rattle.market.specs.Limits.{last_day, max_deals, max_securities, money_limit}
use Rattle.market.specs.Tests.{◌and◌, within}
use Rattle.market.specs.declared.Asset.{Asset}
use Rattle.market.specs.declared.Asset.TheVariants.{Money, Pieces}
use Rattle.market.specs.Day.{Day, Position, cell, columns_of, currency_of, no_turnover, position, positions, row, total_limit}
use Rattle.market.specs.Codes.{no_codes}
use Rattle.market.specs.View.{day_of}
use Rattle.market.specs.Phases.{admits}
use Rattle.market.specs.Needs.{pieces_of}
use Rattle.market.specs.Calendar.{second_sum}
use Rattle.market.specs.Positions.{change, draw}
use Rattle.market.specs.Questions.{first_no, is_free}
use Rattle.market.specs.Deals.{begins, deal_at, deal_sound, first_sum, handed, no_deal, second_paid}
use Rattle.market.specs.Ledger.{Ledger, first_deals, ledger_of, records_sound}
use Rattle.market.specs.Acts.{new_day, second_part}
use Rattle.market.specs.ActStep.{act_effect, act_questions}
use Rattle.market.specs.LedgerParts.{CarriesAct, ReadyLedger}
use Rattle.market.proofs.Logic.{and_true, within_high, within_low}
use Rattle.market.proofs.Amounts.{changed_other, changed_same}
use Rattle.market.proofs.Known.{RulesOk}
use Rattle.market.proofs.Questions.{all_yes, yes}
use Rattle.market.proofs.Deals.{DealOk, deal_ok, records_ok}
use Rattle.market.proofs.View.{cut_at, cut_length}
use Rattle.market.proofs.Acts.{ledger_day, ledger_records}
use Rattle.market.proofs.LedgerParts.{act_accept, act_refuse}
use Rattle.deals.proofs.OpenDeals.{deal_right, few_deals}
use Rattle.invariant.specs.Standing.{Standing}
use Rattle.invariant.proofs.Sound.{sound_standing}
use Rattle.invariant.proofs.Held.{held_cell, held_within}
use Rattle.dealings.specs.declared.Part.{Part}
use Rattle.dealings.specs.Second.{Ends, Handable, Payable, Pays, paid, part_of, part_questions}

-- once an amount has gone out, there is room for it where it goes, also where it came from
pub room_after : {l : List ℕ} {i j a : ℕ} → Handable l i j a → {m : List ℕ} → m ≡ change l i (draw a)
    → ((position m j).free ≤ money_limit) × (a ≤ money_limit)
room_after {l} {i} {j} {a} h {m} paid = (
  subst (λ (x : List ℕ). (position x j).free ≤ money_limit) (sym paid) (go (eqb i j) refl),
  omega (arith, h.covered, h.from_total),
)
  where
    go : (k : Bool) → eqb i j ≡ k → (position (change l i (draw a)) j).free ≤ money_limit
    go true q =
        subst (λ (x : ℕ). (position (change l i (draw a)) x).free ≤ money_limit) (eqb-true i j q)
        (subst (λ (p : Position). p.free ≤ money_limit) (sym (changed_same l i (draw a) (omega (arith, h.size, h.from_known))))
        (omega (arith, h.covered, h.from_total)))
    go false q =
        subst (λ (p : Position). p.free ≤ money_limit) (sym (changed_other l i j (draw a) (eqb-false i j q)))
        (omega (arith, h.to_total))

-- what the code reckons of a deal's numbers is its second part
pub part_is : (r : Rules) (x : Deal) {buyer seller s lots first term rate sum pieces second : ℕ} → buyer ≡ x.buyer → seller ≡ x.seller
    → s ≡ x.security → lots ≡ x.lots → first ≡ x.first → term ≡ x.term → rate ≡ x.rate → sum ≡ first_sum r x
    → pieces ≡ pieces_of (row r s) lots → second ≡ second_sum sum rate first term
    → ◌≡◌ {A = Part} (record {
      buyer = buyer;
      seller = seller;
      security = s;
      currency = currency_of r s;
      due = first + term;
      pieces = pieces;
      sum = second;
    }) (part_of r x)
part_is r x eb es ec el ef et er e1 ep e2 = cc

module _ (r : Rules) (f : Floor) (z : Records) (ready : ReadyLedger r f z) where
  abbrev d : Day
  d = day_of r f

  abbrev l : Ledger
  l = ledger_of r f z

  abbrev deals : List Deal
  deals = first_deals z.count z.deals

  pub standing : Standing d
  standing = sound_standing d ready.sized (ledger_day l ready.sound)

  pub rules_right : RulesOk r
  rules_right = standing.backed.rules_ok

  recorded : records_sound r z.date deals ≡ true
  recorded = ledger_records l ready.sound

  pub day_right : z.date ≤ last_day
  day_right = (records_ok r z.date deals recorded).inside

  pub second_few : z.count ≤ max_deals
  second_few = few_deals r z recorded

  -- the second part of the deal at this place
  module _ (place : ℕ) where
    pub second_none : within 1 z.count place ≡ false → (v : List ℕ) → CarriesAct r f z v (second_part place) f z v (Refused 16 0)
    unfolding act_questions
    second_none h v =
        act_refuse r f z v (second_part place) ready.sound 16 (omega arith) (rw (cut_length no_deal z.count z.deals, h))

    module _ (h : within 1 z.count place ≡ true) where
      pub second_place : (1 ≤ place) × (place - 1 < z.count)
      second_place =
          let low = within_low 1 z.count place h in
          let high = within_high 1 z.count place h in
          (low, omega arith)

      abbrev deal : Deal
      deal = get_or z.deals (place - 1) no_deal

      same : deal_at deals place ≡ deal
      same = cut_at no_deal z.count z.deals (place - 1) second_place.1

      pub second_right : deal_sound r deal ≡ true
      second_right = deal_right r z recorded (place - 1) second_place.1

      sides : DealOk r deal
      sides = deal_ok r deal second_right

      abbrev part : Part
      part = part_of r deal

      currency : currency_of r deal.security < r.currencies
      currency = rules_right.currency deal.security sides.security

      pub second_payable : Payable part
      second_payable = record {
        buyer = omega (arith, sides.buyer, rules_right.participants);
        seller = omega (arith, sides.seller, rules_right.participants);
        security = omega (arith, sides.security, rules_right.securities);
        currency = omega (arith, currency, rules_right.currencies);
      }

      asked : (v : List ℕ) → first_no (act_questions l (length v) (second_part place)) ≡ first_no (part_questions f z part)
      unfolding act_questions is_free
      asked v = rw (cut_length no_deal z.count z.deals, h, same)

      pub second_no : (n : ℕ) → 0 < n → n ≡ first_no (part_questions f z part) → (v : List ℕ)
          → CarriesAct r f z v (second_part place) f z v (Refused n 0)
      second_no n some e v = act_refuse r f z v (second_part place) ready.sound n some (asked v ∙ sym e)

      module _ (none : first_no (part_questions f z part) ≡ 0) where
        low : (y : Asset) → total_limit y ≤ money_limit
        low Money = omega arith
        low Pieces = omega arith

        hands : (y : Asset) (p q column a : ℕ) → p < r.participants → q < r.participants → column < columns_of y r
            → a ≤ (position (positions y d) (cell p column)).free
            → Handable (positions y d) (cell p column) (cell q column) a
        hands y p q column a hp hq hc covers =
            let h = standing.backed.held y in
            record {
              size = h.positions;
              from_known = held_cell h p column hp hc;
              to_known = held_cell h q column hq hc;
              covered = covers;
              from_total = omega (arith, held_within h p column hp hc, low y);
              to_total = omega (arith, held_within h q column hq hc, low y);
            }

        pub second_pays : Pays part f
        second_pays =
            let qs = part_questions f z part in
            let c = and_true (yes 14 qs (all_yes qs tt none)) in
            record {
              payable = second_payable;
              money = hands Money deal.seller deal.buyer (currency_of r deal.security) part.sum sides.seller sides.buyer currency
                  (leb-true _ _ c.1);
              pieces = hands Pieces deal.buyer deal.seller deal.security part.pieces sides.buyer sides.seller sides.security
                  (leb-true _ _ c.0);
            }

        pub second_done : {f' : Floor} → f' ≡ paid part f → {z' : Records} → Ends z (place - 1) z' → (v : List ℕ)
            → CarriesAct r f z v (second_part place) f' z' v (Done 0 0 0 0)
        unfolding act_effect second_paid handed
        second_done {f'} moved {z'} ends v =
            act_accept r f z v (second_part place) ready.sound f' z' v (Done 0 0 0 0) (asked v ∙ none) refl
            (rw (moved, ends.date, ends.deals, same)) refl tt tt

  -- a new day, of this date
  module _ (date : ℕ) (v : List ℕ) where
    pub day_phase : admits f.phase NewDay ≡ false → CarriesAct r f z v (new_day date) f z v (Refused 6 0)
    unfolding act_questions
    day_phase h = act_refuse r f z v (new_day date) ready.sound 6 (omega arith) (rw h)

    module _ (h : admits f.phase NewDay ≡ true) where
      pub day_past : date ≤ z.date → CarriesAct r f z v (new_day date) f z v (Refused 24 0)
      unfolding act_questions ◌and◌
      day_past e =
          act_refuse r f z v (new_day date) ready.sound 24 (omega arith) (rw (h, le-ltb z.date date e))

      module _ (later : z.date < date) where
        pub day_far : last_day < date → CarriesAct r f z v (new_day date) f z v (Refused 24 0)
        unfolding act_questions ◌and◌
        day_far e =
            act_refuse r f z v (new_day date) ready.sound 24 (omega arith)
            (rw (h, lt-ltb z.date date later, lt-leb date last_day e))

        pub day_begins : date ≤ last_day
            → CarriesAct r f z v (new_day date)
            (record f { phase = Open; codes = no_codes; turnover = replicate max_securities no_turnover })
            (record z { date = date }) v (Done 0 0 0 0)
        unfolding act_questions act_effect begins ◌and◌
        day_begins e =
            act_accept r f z v (new_day date) ready.sound _ _ v (Done 0 0 0 0)
            (rw (h, lt-ltb z.date date later, le-leb date last_day e)) refl refl refl tt tt
