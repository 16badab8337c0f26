-- Laws of the loop over the deals, and of soundness part by part.
use Prim.Native.Nat.{ℕ, ◌+◌, ◌≤◌, ◌<◌}
use native.Mathlib.Omega.{arith}
use mathlib.Core.Path.{◌≡◌, refl, sym, ◌∙◌}
use mathlib.Core.List.{List}
use mathlib.Core.Bool.{true, false}
use lib.ListN.{drop, get_or}
use borrow.Author.Tests.{le-leb, le-ltb, lt-leb, lt-ltb}
use Rattle.market.specs.declared.Deal.{Deal}
use Rattle.market.specs.declared.Rules.{Rules}
use Rattle.market.specs.Limits.{last_day, max_deals}
use Rattle.market.specs.Tests.{◌and◌, ◌≤?◌, all_of, known}
use Rattle.market.specs.Day.{row}
use Rattle.market.specs.Deals.{by_age, deal_sound, no_deal}
use Rattle.market.specs.Ledger.{first_deals, records_sound}
use Rattle.market.proofs.View.{cut_length}
use Rattle.soundness.proofs.Loops.{and_none, part_at, part_end}
use Rattle.deals.specs.Parts.{dealt_sound}

abbrev pub at : List Deal → ℕ → Deal
at l i = get_or l i no_deal

-- tests of a number that was widened
pub unknown : {x a n : ℕ} → a ≡ x → n ≤ a → known x n ≡ false
unknown {x} {a} {n} e h = le-ltb x n (omega arith)

pub knows : {x a n : ℕ} → a ≡ x → a < n → known x n ≡ true
knows {x} {a} {n} e h = lt-ltb x n (omega arith)

-- a deal in an unknown security, and what is left to ask of one in a known
pub unknown_deal : (r : Rules) (x : Deal) (s : ℕ) → s ≡ x.security → r.securities ≤ s → deal_sound r x ≡ false
unfolding deal_sound ◌and◌
unknown_deal r x s e h =
    rw (unknown e h, and_none (known x.seller r.participants)) (and_none (known x.buyer r.participants))

pub known_deal : (r : Rules) (x : Deal) (s : ℕ) → s ≡ x.security → s < r.securities
    → deal_sound r x ≡ dealt_sound r.participants (row r s) x
unfolding deal_sound ◌and◌
known_deal r x s e h = rw (e, knows e h)

-- the deals before place i are sound and by age, the last of them from this day
pub record Aged (r : Rules) (date n : ℕ) (l : List Deal) (last i : ℕ) : Type 0 where
  pub inside : i ≤ n
  pub sound : all_of (deal_sound r) (first_deals n l) ≡ all_of (deal_sound r) (drop i (first_deals n l))
  pub ages : by_age 0 date (first_deals n l) ≡ by_age last date (drop i (first_deals n l))

pub aged_none : (r : Rules) (date n : ℕ) (l : List Deal) → Aged r date n l 0 0
aged_none r date n l = record { inside = omega arith; sound = refl; ages = refl }

-- date and number of deals are in range
pub record Few (date n : ℕ) : Type 0 where
  pub day : date ≤ last_day
  pub few : n ≤ max_deals

module _ (r : Rules) (date n : ℕ) (l : List Deal) where
  pub late : last_day < date → false ≡ records_sound r date (first_deals n l)
  unfolding records_sound ◌and◌
  late h = rw (lt-leb _ _ h)

  pub many : max_deals < n → false ≡ records_sound r date (first_deals n l)
  unfolding records_sound ◌and◌
  many h = rw (cut_length no_deal n l, lt-leb _ _ h) (sym (and_none (date ≤? last_day)))

  module _ (f : Few date n) where
    left : records_sound r date (first_deals n l)
        ≡ all_of (deal_sound r) (first_deals n l) and by_age 0 date (first_deals n l)
    unfolding records_sound ◌and◌
    left = rw (cut_length no_deal n l, le-leb _ _ f.day, le-leb _ _ f.few)

    module _ (last i : ℕ) (a : Aged r date n l last i) where
      module _ (h : i < n) where
        pub unsound : deal_sound r (at l i) ≡ false → false ≡ records_sound r date (first_deals n l)
        unfolding ◌and◌
        unsound e = sym (left ∙ rw (a.sound, part_at no_deal n l i h, e))

        module _ (first : ℕ) (here : first ≡ (at l i).first) where
          pub younger : first < last → false ≡ records_sound r date (first_deals n l)
          unfolding by_age ◌and◌
          younger e =
              let test : (last ≤? (at l i).first) ≡ false = lt-leb last (at l i).first (omega arith) in
              sym (left ∙ rw (a.ages, part_at no_deal n l i h, test) (and_none (all_of (deal_sound r) (first_deals n l))))

          pub aged_next : last ≤ first → deal_sound r (at l i) ≡ true → Aged r date n l first (i + 1)
          unfolding by_age ◌and◌
          aged_next e s =
              let test : (last ≤? (at l i).first) ≡ true = le-leb last (at l i).first (omega arith) in
              record {
                inside = omega arith;
                sound = a.sound ∙ rw (part_at no_deal n l i h, s);
                ages = a.ages ∙ rw (part_at no_deal n l i h, test, here);
              }

      pub aged_done : n ≤ i → (last ≤? date) ≡ records_sound r date (first_deals n l)
      unfolding by_age ◌and◌
      aged_done h = sym (left ∙ rw (a.sound, a.ages, part_end no_deal n l i h))
