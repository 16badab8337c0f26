-- An accepted offer on a lent floor: it waits where there is no counter offer, else it meets it, and what the two trade is the
-- definition's.
use Prim.Native.Nat.{ℕ, ◌+◌, ◌-◌, ◌≤◌}
use native.Mathlib.Omega.{arith}
use mathlib.Core.Path.{◌≡◌, refl, ap, sym, ◌∙◌, subst}
use mathlib.Core.List.{List, [], ◌∷◌, ◌++◌}
use mathlib.Core.Bool.{Bool, true, false, cond}
use Rattle.std.specs.Prelude.{Option, Some, None}
use Rattle.std.specs.List.{position, position_from}
use Rattle.std.proofs.lemmas.Iterator.Adapters.{position_from-zero}
use lib.ListN.{length, length-append, get_or-append, take}
use lib.Seq.{get_or-append-add}
use Rattle.market.specs.declared.Answer.{Answer}
use Rattle.market.specs.declared.Answer.TheVariants.{Done}
use Rattle.market.specs.declared.Floor.{Floor}
use Rattle.market.specs.declared.Order.{Order}
use Rattle.market.specs.declared.Rules.{Rules}
use Rattle.market.specs.Limits.{max_waiting}
use Rattle.market.specs.Day.{Day, no_order, order_at}
use Rattle.market.specs.View.{day_of}
use Rattle.market.specs.TradeList.{written}
use Rattle.market.specs.Waiting.{Index, first_index, later, nowhere, somewhere}
use Rattle.market.specs.Entry.{placed}
use Rattle.market.specs.Pairing.{Paired}
use Rattle.market.specs.Offers.{counter_offer, meets, offered}
use Rattle.market.proofs.Offers.{FoundAt, first_found}
use Rattle.market.proofs.View.{first_length, first_take}
use Rattle.invariant.specs.Standing.{Standing}
use Rattle.invariant.proofs.Placed.{placed_standing}
use Rattle.matching.proofs.First.{first_at}
use Rattle.offers.specs.Offering.{Meetable, MetAs, Offerable, OfferedAs, last_order, pair_up}

-- the search of std finds what the definition's finds
abbrev index_as : Option ℕ → Index
index_as None = nowhere
index_as (Some i) = somewhere i

module _ (f : Order → Bool) where
  -- counted from here
  abbrev place_from : ℕ → Index → Option ℕ
  place_from n nowhere = None
  place_from n (somewhere i) = Some (n + i)

  found_from : (n : ℕ) (w : List Order) → position_from f n w ≡ place_from n (first_index f w)
  found_from n [] = refl
  found_from n (o ∷ w) = ap (cond (f o) (Some n)) (found_from (n + 1) w) ∙ go (f o) (first_index f w)
    where
      go : (k : Bool) (x : Index)
          → cond k (Some n) (place_from (n + 1) x) ≡ place_from n (cond k (somewhere 0) (later x))
      go true x = ap Some (omega arith)
      go false nowhere = refl
      go false (somewhere i) = ap Some (omega arith)

  pub found_is : (w : List Order) → first_index f w ≡ index_as (position f w)
  found_is w = sym (ap index_as (position_from-zero f w ∙ found_from 0 w) ∙ go (first_index f w))
    where
      go : (x : Index) → index_as (place_from 0 x) ≡ x
      go nowhere = refl
      go (somewhere i) = ap somewhere (omega arith)

-- the place found among those that wait
module _ {r : Rules} {f : Floor} {e : Order} {v : List ℕ} (a : Offerable r f e v) where
  abbrev d : Day
  d = day_of r f

  pub entry_room : f.count ≤ max_waiting
  entry_room = omega (arith, a.standing.room, first_length f.count f.orders)

  module _ {place : Option ℕ} (found : place ≡ position (meets e) (take f.count f.orders)) (room : f.count ≤ length f.orders) where
    search : counter_offer e d.waiting ≡ index_as place
    unfolding counter_offer
    search =
        found_is (meets e) d.waiting
        ∙ ap (λ (w : List Order). index_as (position (meets e) w)) (first_take f.count f.orders room)
        ∙ ap index_as (sym found)

    at_place : {at : ℕ} → place ≡ Some at → FoundAt (meets e) d.waiting (somewhere at)
    unfolding counter_offer
    at_place q = subst (FoundAt (meets e) d.waiting) (search ∙ ap index_as q) (first_found (meets e) d.waiting)

    -- it is placed
    module _ (f1 : Floor) {x : Answer} (answer : x ≡ (placed d e).answer) (day : day_of r f1 ≡ (placed d e).day) where
      pub entry_waits : place ≡ None → OfferedAs (offered d e) r v f1 v x
      unfolding offered placed
      entry_waits q =
          rw (search ∙ ap index_as q) (record { answer = answer; day = day; list = refl })

      waits : (day_of r f1).waiting ≡ d.waiting ++ (e ∷ [])
      unfolding placed
      waits = ap (λ (z : Day). z.waiting) day

      count_is : f1.count ≡ length d.waiting + 1
      count_is = omega (arith, ap length waits, first_length f1.count f1.orders, length-append d.waiting (e ∷ []))

      last_is : f1.count - 1 ≡ length d.waiting
      last_is = omega (arith, count_is)

      entry_is : last_order f1 ≡ e
      entry_is =
          let here : length d.waiting ≡ length d.waiting + 0 = omega arith in
          ap (order_at f1.orders) last_is
          ∙ sym (first_at f1.count f1.orders (length d.waiting) (omega (arith, count_is)))
          ∙ ap (λ (w : List Order). order_at w (length d.waiting)) waits
          ∙ ap (order_at (d.waiting ++ (e ∷ []))) here
          ∙ get_or-append-add d.waiting (e ∷ []) 0 no_order

      module _ {at : ℕ} (q : place ≡ Some at) where
        counter_is : order_at f1.orders at ≡ order_at d.waiting at
        counter_is =
            sym (first_at f1.count f1.orders at (omega (arith, (at_place q).0, count_is)))
            ∙ ap (λ (w : List Order). order_at w at) waits
            ∙ get_or-append d.waiting (e ∷ []) no_order at (at_place q).0

        pub entry_meetable : Meetable r f1 at v
        entry_meetable = record {
          standing = subst Standing (sym day) (placed_standing d e a.standing a.placeable);
          inside = omega (arith, (at_place q).0, last_is);
          meets = rw (entry_is, counter_is) (at_place q).1;
          lent = a.lent;
        }

        pub entry_meets : {f' : Floor} {v' : List ℕ} {b : Answer}
            → MetAs (pair_up (day_of r f1) (last_order f1) (f1.count - 1) at) (last_order f1) r v f' v' b
            → OfferedAs (offered d e) r v f' v' b
        unfolding offered placed
        entry_meets {f'} {v'} {b} h =
            let all : pair_up (day_of r f1) (last_order f1) (f1.count - 1) at ≡ pair_up (placed d e).day e (length d.waiting) at =
            rw (entry_is, last_is) (ap (λ (z : Day). pair_up z e (length d.waiting) at) day) in
            rw (search ∙ ap index_as q)
            (record {
              answer = h.answer ∙ ap (λ (o : Order). Done o.code o.lots 0 1) entry_is;
              day = h.day ∙ ap (λ (z : Paired). z.day) all;
              list = h.list ∙ ap (λ (z : Paired). written z.trades v) all;
            })
