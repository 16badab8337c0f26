-- Lots come off two orders, off the later one first.
use Prim.Native.Nat.{ℕ, ◌≤◌, ◌<◌, max, min}
use native.Mathlib.Omega.{arith}
use mathlib.Core.Path.{◌≡◌, ap, refl, subst, sym, ◌∙◌}
use mathlib.Core.List.{List}
use mathlib.Core.Bool.{Bool, true, false, cond}
use lib.ListN.{length}
use borrow.Author.Tests.{ltb-true, ltb-false}
use Rattle.market.specs.declared.Order.{Order}
use Rattle.market.specs.Limits.{max_lots}
use Rattle.market.specs.Tests.{◌<?◌}
use Rattle.market.specs.Day.{no_order}
use Rattle.market.specs.View.{first_orders}
use Rattle.market.specs.Waiting.{take_off}
use Rattle.market.specs.Pairing.{take_both}
use Rattle.market.proofs.Lists.{All, all_at}
use Rattle.market.proofs.View.{first_length}
use Rattle.market.proofs.Waiting.{all_take_off, length_take_off, length_take_off_le}
use Rattle.matching.specs.Orders.{Takeable, TakenOff}
use Rattle.matching.proofs.First.{first_at}

-- the lots of an order that waits
abbrev pub Within : Order → Type 0
Within o = o.lots ≤ max_lots

takeable : (w : List Order) (count i : ℕ) → i < count → count ≤ length w → All Within (first_orders count w)
    → Takeable w count i
takeable w count i h room within = record {
  inside = h;
  room = room;
  top =
      rw (sym (first_at count w i h))
      (all_at Within no_order (first_orders count w) i within (omega (arith, first_length count w)));
}

-- two of the first `count` orders, at places i and j
pub record Taking (w : List Order) (count i j later earlier : ℕ) : Type 0 where
  pub one : i < count
  pub other : j < count
  pub apart : i ≡ j → ⊥
  pub room : count ≤ length w
  pub within : All Within (first_orders count w)
  pub last : later ≡ max i j
  pub first : earlier ≡ min i j

-- n lots come off them
module _ {w : List Order} {count i j later earlier : ℕ} (h : Taking w count i j later earlier) where
  pub takes_later : Takeable w count later
  takes_later = takeable w count later (omega (arith, h.one, h.other, h.last)) h.room h.within

  both : (n : ℕ) → take_off (take_off (first_orders count w) later n) earlier n ≡ take_both (first_orders count w) i j n
  unfolding take_both
  both n = go (i <? j) refl
    where
      go : (x : Bool) → (i <? j) ≡ x
          → take_off (take_off (first_orders count w) later n) earlier n
          ≡ cond x (take_off (take_off (first_orders count w) j n) i n) (take_off (take_off (first_orders count w) i n) j n)
      go true e =
          let l = ltb-true i j e in
          let a : earlier ≡ i = omega (arith, h.first) in
          let c : later ≡ j = omega (arith, h.last) in
          rw (a, c)
      go false e =
          let l = ltb-false i j e in
          let a : earlier ≡ j = omega (arith, h.first) in
          let c : later ≡ i = omega (arith, h.last) in
          rw (a, c)

  -- they are off the later one
  module _ {n : ℕ} {w' : List Order} {count' : ℕ} (t : TakenOff w count later n w' count') where
    pub takes_earlier : Takeable w' count' earlier
    takes_earlier =
        let all = first_orders count w in
        let long = first_length count w in
        let now : length (take_off all later n) ≡ count' = ap length (sym t.waiting) ∙ first_length count' w' in
        let before : earlier < later = omega (arith, h.apart, h.first, h.last) in
        let inside : later < length all = omega (arith, h.one, h.other, h.last) in
        takeable w' count' earlier
        (omega (arith, length_take_off all earlier later n before inside))
        (omega (arith, t.long, h.room, length_take_off_le all later n inside))
        (subst (All Within) (sym t.waiting) (all_take_off Within all later n (λ o top more. omega arith) h.within))

    -- and off both
    pub taken_both : {w'' : List Order} {count'' : ℕ} → TakenOff w' count' earlier n w'' count''
        → first_orders count'' w'' ≡ take_both (first_orders count w) i j n
    taken_both u = u.waiting ∙ ap (λ (l : List Order). take_off l earlier n) t.waiting ∙ both n
