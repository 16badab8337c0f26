-- Laws of deals: what is known of sound records, and that they stay sound when a deal is added or ends, and on a later day.
use Prim.Native.Nat.{ℕ, zero, suc, ◌≤◌, ◌<◌}
use native.Mathlib.Omega.{arith}
use mathlib.Core.Path.{◌≡◌}
use mathlib.Core.List.{List, [], ◌∷◌, ◌++◌}
use mathlib.Core.Bool.{true}
use lib.ListN.{length, length-append}
use borrow.Author.Tests.{leb-true, le-leb, ltb-true}
use Rattle.market.specs.declared.Deal.{Deal}
use Rattle.market.specs.declared.Rules.{Rules}
use Rattle.market.specs.Limits.{last_day, max_deals, max_first_sum, max_lots, max_offer_rate, max_term}
use Rattle.market.specs.Tests.{remove_at}
use Rattle.market.specs.Day.{row}
use Rattle.market.specs.Sound.{price_sound}
use Rattle.market.specs.Deals.{by_age, deal_sound, deals_room, due_day, first_sum, loan_sound, term_sound}
use Rattle.market.specs.Ledger.{records_sound}
use Rattle.market.proofs.Logic.{and_true, both, within_high, within_low}
use Rattle.market.proofs.Lists.{All, all_append, all_remove, all_test, length_remove, test_all}

-- what is known of a sound deal
pub record DealOk (r : Rules) (x : Deal) : Type 0 where
  pub buyer : x.buyer < r.participants
  pub seller : x.seller < r.participants
  pub security : x.security < r.securities
  pub lots : 0 < x.lots
  pub top : x.lots ≤ max_lots
  pub price : price_sound (row r x.security) x.price ≡ true
  pub term : 0 < x.term
  pub longest : x.term ≤ max_term
  pub due : due_day x ≤ last_day
  pub rate : x.rate ≤ max_offer_rate
  pub sum : first_sum r x ≤ max_first_sum

pub deal_ok : (r : Rules) (x : Deal) → deal_sound r x ≡ true → DealOk r x
unfolding deal_sound term_sound loan_sound
deal_ok r x e =
    let a = and_true e in
    let b = and_true a.1 in
    let c = and_true b.1 in
    let n = and_true c.1 in
    let p = and_true n.1 in
    let q = and_true p.1 in
    let t = and_true q.0 in
    let s = and_true q.1 in
    record {
      buyer = ltb-true x.buyer r.participants a.0;
      seller = ltb-true x.seller r.participants b.0;
      security = ltb-true x.security r.securities c.0;
      lots = within_low 1 max_lots x.lots n.0;
      top = within_high 1 max_lots x.lots n.0;
      price = p.0;
      term = within_low 1 max_term x.term t.0;
      longest = within_high 1 max_term x.term t.0;
      due = leb-true (due_day x) last_day t.1;
      rate = leb-true x.rate max_offer_rate s.0;
      sum = leb-true (first_sum r x) max_first_sum s.1;
    }

-- first days from one day on, none after another
abbrev pub Ages : ℕ → ℕ → List Deal → Type 0
Ages from to [] = from ≤ to
Ages from to (x ∷ deals) = (from ≤ x.first) × Ages x.first to deals

pub ages_true : (from to : ℕ) (deals : List Deal) → by_age from to deals ≡ true → Ages from to deals
unfolding by_age
ages_true from to [] e = leb-true from to e
ages_true from to (x ∷ deals) e =
    (leb-true from x.first (and_true e).0, ages_true x.first to deals (and_true e).1)

true_ages : (from to : ℕ) (deals : List Deal) → Ages from to deals → by_age from to deals ≡ true
unfolding by_age
true_ages from to [] h = le-leb from to h
true_ages from to (x ∷ deals) h = both (le-leb from x.first h.0) (true_ages x.first to deals h.1)

-- a deal of the last day goes last
ages_append : (from to : ℕ) (deals : List Deal) (x : Deal) → x.first ≡ to → Ages from to deals → Ages from to (deals ++ (x ∷ []))
ages_append from to [] x e h = (omega arith, omega arith)
ages_append from to (y ∷ deals) x e h = (h.0, ages_append y.first to deals x e h.1)

ages_earlier : (from from' to : ℕ) (deals : List Deal) → from' ≤ from → Ages from to deals → Ages from' to deals
ages_earlier from from' to [] k h = omega arith
ages_earlier from from' to (x ∷ deals) k h = (omega (arith, h.0), h.1)

ages_remove : (from to : ℕ) (deals : List Deal) (i : ℕ) → Ages from to deals → Ages from to (remove_at deals i)
ages_remove from to [] i h = h
ages_remove from to (x ∷ deals) zero h = ages_earlier x.first from to deals h.0 h.1
ages_remove from to (x ∷ deals) (suc i) h = (h.0, ages_remove x.first to deals i h.1)

ages_later : (from to to' : ℕ) (deals : List Deal) → to ≤ to' → Ages from to deals → Ages from to' deals
ages_later from to to' [] k h = omega arith
ages_later from to to' (x ∷ deals) k h = (h.0, ages_later x.first to to' deals k h.1)

-- sound records, as facts
pub record RecordsOk (r : Rules) (date : ℕ) (deals : List Deal) : Type 0 where
  pub inside : date ≤ last_day
  pub room : length deals ≤ max_deals
  pub each : All (λ x. deal_sound r x ≡ true) deals
  pub ages : Ages 0 date deals

pub records_ok : (r : Rules) (date : ℕ) (deals : List Deal) → records_sound r date deals ≡ true → RecordsOk r date deals
unfolding records_sound
records_ok r date deals e =
    let a = and_true e in
    let b = and_true a.1 in
    let c = and_true b.1 in
    record {
      inside = leb-true date last_day a.0;
      room = leb-true (length deals) max_deals b.0;
      each = test_all (λ x. deal_sound r x ≡ true) (deal_sound r) deals (λ x h. h) c.0;
      ages = ages_true 0 date deals c.1;
    }

pub records_sound_lem : (r : Rules) (date : ℕ) (deals : List Deal) → RecordsOk r date deals → records_sound r date deals ≡ true
unfolding records_sound
records_sound_lem r date deals ok =
    both (le-leb date last_day ok.inside)
    (both (le-leb (length deals) max_deals ok.room)
    (both (all_test (λ x. deal_sound r x ≡ true) (deal_sound r) deals (λ x h. h) ok.each)
    (true_ages 0 date deals ok.ages)))

pub records_none : (r : Rules) (date : ℕ) → date ≤ last_day → RecordsOk r date []
records_none r date h = record { inside = h; room = omega arith; each = tt; ages = omega arith }

-- a deal of today is added
pub records_add : (r : Rules) (date : ℕ) (deals : List Deal) (x : Deal) → RecordsOk r date deals → deals_room deals ≡ true
    → deal_sound r x ≡ true → x.first ≡ date → RecordsOk r date (deals ++ (x ∷ []))
records_add r date deals x ok room h e = record {
  inside = ok.inside;
  room = omega (arith, length-append deals (x ∷ []), ltb-true (length deals) max_deals room);
  each = all_append (λ x. deal_sound r x ≡ true) deals (x ∷ []) ok.each (h, tt);
  ages = ages_append 0 date deals x e ok.ages;
}

-- one of them ends
pub records_end : (r : Rules) (date : ℕ) (deals : List Deal) (i : ℕ) → RecordsOk r date deals → i < length deals
    → RecordsOk r date (remove_at deals i)
records_end r date deals i ok h = record {
  inside = ok.inside;
  room = omega (arith, length_remove deals i h, ok.room);
  each = all_remove (λ x. deal_sound r x ≡ true) deals i ok.each;
  ages = ages_remove 0 date deals i ok.ages;
}

-- a later day
pub records_later : (r : Rules) (date date' : ℕ) (deals : List Deal) → RecordsOk r date deals → date ≤ date' → date' ≤ last_day
    → RecordsOk r date' deals
records_later r date date' deals ok later inside = record {
  inside = inside;
  room = ok.room;
  each = ok.each;
  ages = ages_later 0 date date' deals later ok.ages;
}
