-- What holds at the head of the fill loop: from here the definition comes to the same as from the start.
use Prim.Native.Nat.{ℕ, ◌+◌, ◌*◌, ◌-◌, ◌≤◌, ◌<◌, min}
use native.Mathlib.Omega.{arith}
use mathlib.Core.Path.{◌≡◌, refl, ap, sym, ◌∙◌, subst}
use mathlib.Core.List.{List, [], ◌∷◌}
use mathlib.Core.Bool.{cond}
use lib.ListN.{length, set, take-append-drop}
use Rattle.std.specs.Prelude.{Option, Some}
use Rattle.market.specs.declared.Floor.{Floor}
use Rattle.market.specs.declared.Order.{Order}
use Rattle.market.specs.declared.Turnover.{Turnover}
use Rattle.market.specs.Limits.{max_lots, max_securities, max_waiting, numbers_per_trade}
use Rattle.market.specs.declared.Rules.{Rules}
use Rattle.market.specs.Day.{Day, no_order, order_at, with_lots}
use Rattle.market.specs.View.{day_of, first_orders}
use Rattle.market.specs.Waiting.{take_off}
use Rattle.market.specs.TradeList.{trade_of, written}
use Rattle.market.specs.Matching.{Best, Filled, best, buy_of, fill, fits, found, next, prefer, price_of, sell_of}
use Rattle.market.specs.Matching.{traded, with_trade}
use Rattle.market.proofs.Known.{OrderOk}
use Rattle.market.proofs.Lists.{all_at}
use Rattle.market.proofs.View.{first_length}
use Rattle.market.proofs.Matching.{Chosen, best_chosen}
use Rattle.market.proofs.Fill.{fill_trade}
use Rattle.invariant.specs.Standing.{InFlight}
use Rattle.invariant.proofs.Flight.{fill_few, flight_next}
use Rattle.matching.specs.declared.Matched.{Matched}
use Rattle.matching.specs.Execution.{Executable, Executes}
use Rattle.matching.specs.Filling.{FilledAs}
use Rattle.matching.proofs.Search.{Seeks, seek_found}
use Rattle.matching.proofs.Ready.{day_traded, executable}
use Rattle.matching.proofs.Writing.{written_length, written_next, written_from}

-- rules, floor, entry and lent list at the start
pub record Start : Type 0 where
  pub r : Rules
  pub f : Floor
  pub e : Order
  pub v : List ℕ

-- the definition's fill from the start
abbrev pub whole : Start → Filled
whole s = fill (day_of s.r s.f) s.e

-- with so many lots left, on this floor
pub record Going (s : Start) (f : Floor) (v : List ℕ) (left made : ℕ) : Type 0 where
  pub flight : InFlight (day_of s.r f) (with_lots s.e left)
  pub long : length v ≡ length s.v
  pub less : left ≤ s.e.lots
  pub day : (fill (day_of s.r f) (with_lots s.e left)).day ≡ (whole s).day
  pub rest : (fill (day_of s.r f) (with_lots s.e left)).entry ≡ (whole s).entry
  pub trades : made + length (fill (day_of s.r f) (with_lots s.e left)).trades ≡ length (whole s).trades
  pub list : written_from made (fill (day_of s.r f) (with_lots s.e left)).trades v ≡ written (whole s).trades s.v

-- the search does not look at the entry's lots
pub best_lots : (e : Order) (n : ℕ) (w : List Order) → best (with_lots e n) w ≡ best e w
unfolding best fits
best_lots e n [] = refl
best_lots e n (o ∷ w) =
    ap (λ (b : Best). cond (fits e o) (prefer e.side (price_of o) b) (next b)) (best_lots e n w)

-- the price found is that of the order found
found_price : (e : Order) (w : List Order) (i p : ℕ) → best e w ≡ found i p
    → best e w ≡ found i (price_of (order_at w i))
found_price e w i p h =
    let c = subst (λ (b : Best). Chosen e w b) h (best_chosen e w) in
    h ∙ ap (λ (q : ℕ). found i q) c.2

-- so is that of the order that the search has found
pub found_by : {e : Order} {w : List Order} {reach count i : ℕ} {at : Option ℕ} {bound : ℕ} → Seeks e w reach count i at bound
    → count ≤ i → {k : ℕ} → at ≡ Some k
    → best e (first_orders count w) ≡ found k (price_of (order_at (first_orders count w) k))
found_by h l q = let f = seek_found h l q in found_price _ _ _ f.0 f.1

pub going_starts : (s : Start) → InFlight (day_of s.r s.f) s.e → {wanted : ℕ} → wanted ≡ s.e.lots
    → Going s s.f s.v wanted 0
going_starts s flight all =
    rw all
    (record {
      flight = flight;
      long = refl;
      less = omega arith;
      day = refl;
      rest = refl;
      trades = omega arith;
      list = refl;
    })

module _ {s : Start} {f : Floor} {v : List ℕ} {left made : ℕ} (g : Going s f v left made) where
  abbrev entry : Order
  entry = with_lots s.e left

  abbrev day : Day
  day = day_of s.r f

  pub going_room : f.count ≤ max_waiting
  going_room = omega (arith, g.flight.room, first_length f.count f.orders)

  pub going_security : s.e.security < max_securities
  going_security = omega (arith, g.flight.security, g.flight.backed.rules_ok.securities)

  pub going_top : left ≤ max_lots
  going_top = g.flight.top

  -- where matching ends, what the contract says holds
  pub going_ends : fill day entry ≡ record { day = day; entry = entry; trades = [] } → (m : Matched) → m.left ≡ left
      → m.trades ≡ made → FilledAs (whole s) s.r s.e s.v f v m
  going_ends h m rest count = record {
    day = sym (ap (λ (x : Filled). x.day) h) ∙ g.day;
    entry = ap (with_lots s.e) rest ∙ sym (ap (λ (x : Filled). x.entry) h) ∙ g.rest;
    count = omega (arith, count, g.trades, ap (λ (x : Filled). length x.trades) h);
    list =
        sym (take-append-drop (numbers_per_trade * made) v)
        ∙ sym (ap (λ (x : Filled). written_from made x.trades v) h)
        ∙ g.list;
  }

  -- there is a trade with the order at place i
  module _ (i : ℕ) (some : 0 < left) (h : best s.e day.waiting ≡ found i (price_of (order_at day.waiting i))) where
    abbrev o : Order
    o = order_at day.waiting i

    abbrev n : ℕ
    n = min left o.lots

    abbrev p : ℕ
    p = price_of o

    finds : best entry day.waiting ≡ found i p
    finds = best_lots s.e left day.waiting ∙ h

    chosen : Chosen entry day.waiting (found i p)
    chosen = subst (λ (x : Best). Chosen entry day.waiting x) finds (best_chosen entry day.waiting)

    pub going_index : i < f.count
    going_index = omega (arith, chosen.0, first_length f.count f.orders)

    pub going_order : OrderOk s.r o
    going_order = all_at (OrderOk s.r) no_order day.waiting i g.flight.orders chosen.0

    step : fill day entry
        ≡ with_trade (trade_of s.r (buy_of entry o) (sell_of entry o) p n)
        (fill (traded day (buy_of entry o) (sell_of entry o) i p n) (with_lots s.e (left - n)))
    step = fill_trade day entry i p some finds

    -- each trade is with an order that waited at the start
    pub going_made : made < s.f.count
    going_made =
        omega (
          arith,
          g.trades,
          (fill_few (day_of s.r s.f) s.e).few,
          ap (λ (x : Filled). length x.trades) step,
          first_length s.f.count s.f.orders,
        )

    pub going_lent : numbers_per_trade * s.f.count ≤ length s.v → numbers_per_trade * made + numbers_per_trade ≤ length v
    going_lent lent = omega (arith, g.long, going_made)

    -- the code's entry, waiting order and lots
    module _ {e' o' : Order} {n' : ℕ} (one : e' ≡ entry) (other : o' ≡ o) (part : n' ≡ n) where
      pub going_ready : numbers_per_trade * made + numbers_per_trade ≤ length v
          → Executable s.r f (buy_of e' o') (sell_of e' o') (price_of o') n' made v
      going_ready lent =
          rw (one, other, part) (executable s.r f g.flight i p n some chosen (omega arith) (omega arith) v made lent)

      -- what it hands over: the floor after the trade
      module _ {f1 : Floor} (f' : Floor) {v' : List ℕ} {q : Turnover}
          (done : Executes s.r f (buy_of e' o') (sell_of e' o') (price_of o') n' made v f1 v' q)
          (waiting : first_orders f'.count f'.orders ≡ take_off day.waiting i n') (codes : f'.codes ≡ f.codes)
          (phase : f'.phase ≡ f.phase) (turnover : f'.turnover ≡ set f.turnover s.e.security q)
          (money : f'.money ≡ f1.money) (pieces : f'.pieces ≡ f1.pieces)
          (room : numbers_per_trade * made + numbers_per_trade ≤ length v) where
        abbrev Does : Order → Order → ℕ → Type 0
        Does x y z = Executes s.r f (buy_of x y) (sell_of x y) (price_of y) z made v f1 v' q

        exact : Executes s.r f (buy_of entry o) (sell_of entry o) p n made v f1 v' q
        exact =
            subst (λ (x : ℕ). Does entry o x) part
            (subst (λ (x : Order). Does entry x n') other (subst (λ (x : Order). Does x o' n') one done))

        off : first_orders f'.count f'.orders ≡ take_off day.waiting i n
        off = waiting ∙ ap (take_off day.waiting i) part

        after : day_of s.r f' ≡ traded day (buy_of entry o) (sell_of entry o) i p n
        after =
            day_traded s.r f g.flight i p n some chosen (omega arith) (omega arith) f' exact off codes phase turnover money pieces

        pub going_next : Going s f' v' (left - n') (made + 1)
        going_next =
            let t = trade_of s.r (buy_of entry o) (sell_of entry o) p n in
            let rest = with_lots s.e (left - n) in
            let more = fill (day_of s.r f') rest in
            let again : fill day entry ≡ with_trade t more =
            step ∙ ap (λ (d : Day). with_trade t (fill d rest)) (sym after) in
            rw part
            (record {
              flight = subst (λ (d : Day). InFlight d rest) (sym after)
                  (flight_next day entry g.flight i p n some chosen (omega arith) (omega arith));
              long = ap length exact.list ∙ written_length v made t room ∙ g.long;
              less = omega (arith, g.less);
              day = sym (ap (λ (x : Filled). x.day) again) ∙ g.day;
              rest = sym (ap (λ (x : Filled). x.entry) again) ∙ g.rest;
              trades = omega (arith, g.trades, ap (λ (x : Filled). length x.trades) again);
              list =
                  ap (written_from (made + 1) more.trades) exact.list
                  ∙ sym (written_next v made t room more.trades)
                  ∙ sym (ap (λ (x : Filled). written_from made x.trades v) again)
                  ∙ g.list;
            })
