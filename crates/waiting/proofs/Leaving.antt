-- An order that waits can be freed, and the floor without it holds the definition's day.
use Prim.Native.Nat.{ℕ, ◌+◌, ◌-◌, ◌≤◌, ◌<◌}
use native.Mathlib.Omega.{arith}
use mathlib.Core.Path.{◌≡◌, ap, sym, subst, ◌∙◌}
use mathlib.Core.List.{[]}
use lib.ListN.{length}
use Rattle.std.specs.List.{copy_within}
use Rattle.market.specs.declared.Floor.{Floor}
use Rattle.market.specs.declared.Order.{Order}
use Rattle.market.specs.declared.Rules.{Rules}
use Rattle.market.specs.Limits.{max_waiting}
use Rattle.market.specs.Tests.{remove_at}
use Rattle.market.specs.Day.{Day, no_order, order_at, with_waiting}
use Rattle.market.specs.View.{day_of}
use Rattle.market.specs.Needs.{need_at}
use Rattle.market.specs.Positions.{release, release_for}
use Rattle.market.specs.Waiting.{leave}
use Rattle.market.proofs.Lists.{all_at, sum_remove}
use Rattle.market.proofs.Known.{OrderOk}
use Rattle.market.proofs.View.{cut_at, first_length}
use Rattle.invariant.specs.Standing.{KindOk, Standing, needs_of}
use Rattle.invariant.proofs.Whole.{limit_fits}
use Rattle.waiting.specs.Claims.{Freeable, moved}
use Rattle.waiting.proofs.Claims.{frees, moved_day}
use Rattle.waiting.proofs.Gap.{gap_closed}

module _ (r : Rules) (f : Floor) (i : ℕ) (standing : Standing (day_of r f)) (waits : i < f.count) where
  abbrev d : Day
  d = day_of r f

  abbrev o : Order
  o = order_at f.orders i

  there : order_at d.waiting i ≡ o
  there = cut_at no_order f.count f.orders i waits

  inside : i < length d.waiting
  inside = omega (arith, first_length f.count f.orders, waits)

  ok : OrderOk r o
  ok = subst (OrderOk r) there (all_at (OrderOk r) no_order d.waiting i standing.orders inside)

  kind_ok : KindOk d o
  kind_ok = subst (KindOk d) there (all_at (KindOk d) no_order d.waiting i standing.kinds inside)

  pub leaver_room : f.count ≤ max_waiting
  leaver_room = omega (arith, standing.room, first_length f.count f.orders)

  pub leaver_frees : Freeable d o
  leaver_frees =
      frees d o [] standing.backed ok.participant ok.security (limit_fits d standing o ok kind_ok) ok.top
      (λ y j.
      subst (λ (z : Order). need_at y r f.turnover j z ≤ needs_of y d d.waiting j) there
      (omega (arith, sum_remove (need_at y r f.turnover j) no_order d.waiting i inside)))

  -- its need freed, and each order behind it a place further on
  pub leaver_left : f.count ≤ length f.orders
      → day_of r (record (moved release r f o) { orders = copy_within f.orders (i + 1) f.count i; count = f.count - 1 })
      ≡ leave d i
  unfolding leave release_for
  leaver_left room =
      rw (gap_closed no_order f.orders i f.count waits room)
      (ap (λ (z : Day). with_waiting z (remove_at d.waiting i)) (moved_day release r f o)
      ∙ ap (λ (z : Order). with_waiting (release_for d z) (remove_at d.waiting i)) (sym there))
