-- The loop that frees all needs: from here the definition comes to the same as from the start.
use Prim.Native.Nat.{ℕ, suc, ◌+◌, ◌-◌, ◌≤◌, ◌<◌}
use native.Mathlib.Omega.{arith}
use mathlib.Core.Path.{◌≡◌, refl, ap, sym, ◌∙◌, subst}
use mathlib.Core.List.{List, [], ◌∷◌}
use lib.ListN.{length, drop, length-drop}
use lib.Seq.{drop-drop, drop-length, get_or-drop}
use Rattle.market.specs.declared.Floor.{Floor}
use Rattle.market.specs.declared.Order.{Order}
use Rattle.market.specs.declared.Rules.{Rules}
use Rattle.market.specs.Tests.{remove_at}
use Rattle.market.specs.Day.{Day, no_order, order_at, with_waiting}
use Rattle.market.specs.View.{day_of}
use Rattle.market.specs.Needs.{need_at}
use Rattle.market.specs.Positions.{release, release_for}
use Rattle.market.specs.Waiting.{leave, leave_first}
use Rattle.market.proofs.View.{cut_at, first_length}
use Rattle.market.proofs.Lists.{all_at, sum_remove}
use Rattle.market.proofs.Known.{OrderOk}
use Rattle.invariant.specs.Standing.{KindOk, Standing, needs_of}
use Rattle.invariant.proofs.Leaves.{leave_standing}
use Rattle.invariant.proofs.Whole.{limit_fits}
use Rattle.waiting.specs.Claims.{Freeable, moved}
use Rattle.waiting.proofs.Claims.{frees, known_reckons, moved_day}
use Rattle.pairing.specs.Leaving.{all_left}

-- the day when the first i orders have left
abbrev pub rest_day : Rules → Floor → ℕ → Day
rest_day r f i = with_waiting (day_of r f) (drop i (day_of r f).waiting)

-- f₀ is the floor at the start, f the one where the needs of the first i orders are freed
pub record Leaving (r : Rules) (f₀ f : Floor) (i : ℕ) : Type 0 where
  pub count : f.count ≡ f₀.count
  pub orders : f.orders ≡ f₀.orders
  pub passed : i ≤ f.count
  pub standing : Standing (rest_day r f i)
  pub rest : leave_first (f.count - i) (rest_day r f i) ≡ all_left (day_of r f₀)

pub leaving_starts : (r : Rules) (f : Floor) → Standing (day_of r f) → Leaving r f f 0
leaving_starts r f st = record {
  count = refl;
  orders = refl;
  passed = omega arith;
  standing = st;
  rest =
      let all : f.count - 0 ≡ length (day_of r f).waiting = omega (arith, first_length f.count f.orders) in
      ap (λ (n : ℕ). leave_first n (day_of r f)) all;
}

remove_first : (w : List Order) → remove_at w 0 ≡ drop 1 w
remove_first [] = refl
remove_first (o ∷ w) = refl

module _ {r : Rules} {f₀ f : Floor} {i : ℕ} (g : Leaving r f₀ f i) where
  abbrev all : List Order
  all = (day_of r f).waiting

  abbrev d : Day
  d = rest_day r f i

  long : length d.waiting ≡ f.count - i
  long = length-drop i all ∙ ap (λ (n : ℕ). n - i) (first_length f.count f.orders)

  pub leaving_ends : f.count ≤ i → day_of r (record f { count = 0 }) ≡ all_left (day_of r f₀)
  unfolding leave_first
  leaving_ends h =
      let over : i ≡ length all = omega (arith, g.passed, first_length f.count f.orders) in
      let none : f.count - i ≡ 0 = omega arith in
      let empty : drop i all ≡ [] = ap (λ (n : ℕ). drop n all) over ∙ drop-length all in
      ap (with_waiting (day_of r f)) (sym empty) ∙ sym (ap (λ (n : ℕ). leave_first n d) none) ∙ g.rest

  module _ (some : i < f.count) where
    abbrev o : Order
    o = order_at f.orders i

    inside : 0 < length d.waiting
    inside = omega (arith, long)

    first : order_at d.waiting 0 ≡ o
    first =
        get_or-drop i all 0 no_order
        ∙ ap (order_at all) (omega arith)
        ∙ cut_at no_order f.count f.orders i some

    known : OrderOk r o
    known = subst (OrderOk r) first (all_at (OrderOk r) no_order d.waiting 0 g.standing.orders inside)

    pub leaving_frees : Freeable (day_of r f) o
    leaving_frees =
        let kind = subst (KindOk d) first (all_at (KindOk d) no_order d.waiting 0 g.standing.kinds inside) in
        let limit = limit_fits d g.standing o known kind in
        let free = frees d o [] g.standing.backed known.participant known.security limit known.top
        (λ y j.
        subst (λ (z : Order). need_at y r f.turnover j z ≤ needs_of y d d.waiting j) first
        (omega (arith, sum_remove (need_at y r f.turnover j) no_order d.waiting 0 inside))) in
        record {
          reckonable = known_reckons (day_of r f) o g.standing.backed.rules_ok known.participant known.security limit known.top;
          blocked = free.blocked;
          within = free.within;
        }

    after : rest_day r (moved release r f o) (i + 1) ≡ leave d 0
    unfolding leave release_for
    after =
        ap (with_waiting (day_of r (moved release r f o))) (sym (remove_first d.waiting ∙ drop-drop 1 i all))
        ∙ ap (λ (e : Day). with_waiting e (remove_at d.waiting 0)) (moved_day release r f o)
        ∙ ap (λ (z : Order). with_waiting (release_for d z) (remove_at d.waiting 0)) (sym first)

    pub leaving_next : Leaving r f₀ (moved release r f o) (i + 1)
    unfolding leave_first
    leaving_next = record {
      count = g.count;
      orders = g.orders;
      passed = omega arith;
      standing = subst Standing (sym after) (leave_standing d 0 g.standing inside);
      rest =
          let left : f.count - i ≡ suc (f.count - (i + 1)) = omega arith in
          ap (leave_first (f.count - (i + 1))) after ∙ ap (λ (n : ℕ). leave_first n d) (sym left) ∙ g.rest;
    }
