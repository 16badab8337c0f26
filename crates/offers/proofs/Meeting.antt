-- An offer and its counter offer on a lent floor: they can trade, and the floor without them holds the definition's day.
use Prim.Native.Nat.{ℕ, ◌+◌, ◌-◌, ◌≤◌, ◌<◌}
use native.Mathlib.Omega.{arith}
use mathlib.Core.Path.{◌≡◌, refl, ap, sym, ◌∙◌, subst}
use mathlib.Core.List.{List, [], ◌∷◌, ◌++◌}
use mathlib.Core.Bool.{true}
use lib.ListN.{length}
use borrow.Author.Tests.{le-ltb, lt-ltb}
use Rattle.std.specs.List.{copy_within}
use Rattle.market.specs.declared.Answer.TheVariants.{Done}
use Rattle.market.specs.declared.Floor.{Floor}
use Rattle.market.specs.declared.Order.{Order}
use Rattle.market.specs.declared.Rules.{Rules}
use Rattle.market.specs.declared.Side.{Side}
use Rattle.market.specs.declared.Side.TheVariants.{Buy, Sell}
use Rattle.market.specs.declared.Turnover.{Turnover}
use Rattle.market.specs.Limits.{max_waiting}
use Rattle.market.specs.Tests.{remove_at}
use Rattle.market.specs.Day.{Day, no_order, order_at}
use Rattle.market.specs.View.{day_of, first_orders}
use Rattle.market.specs.Needs.{price_or}
use Rattle.market.specs.TradeList.{Trade, trade_of, written}
use Rattle.market.specs.Waiting.{take_off}
use Rattle.market.specs.Matching.{if_buy}
use Rattle.market.specs.Offers.{meets}
use Rattle.market.specs.Pairing.{take_both}
use Rattle.market.proofs.Offers.{OfferAt, offers_meet}
use Rattle.market.proofs.View.{first_length}
use Rattle.matching.specs.Execution.{Executable, Executes}
use Rattle.matching.specs.Written.{trade_written}
use Rattle.matching.proofs.First.{filled_goes, first_at, first_next}
use Rattle.matching.proofs.Pairing.{PairOk, day_paired, list_paired, pair_executable}
use Rattle.waiting.proofs.Gap.{gap_closed}
use Rattle.offers.specs.Offering.{Meetable, MetAs, last_order, pair_up}

-- the order at one of two places
at_side : (w : List Order) (x : Side) (i j : ℕ) → order_at w (if_buy x i j) ≡ if_buy x (order_at w i) (order_at w j)
at_side w Buy i j = refl
at_side w Sell i j = refl

-- of two places, the later one gives its lots first
later_first : (w : List Order) (x : Side) (last i n : ℕ) → i < last
    → take_both w (if_buy x last i) (if_buy x i last) n ≡ take_off (take_off w last n) i n
unfolding take_both
later_first w Buy last i n h = rw (le-ltb last i (omega arith))
later_first w Sell last i n h = rw (lt-ltb i last h)

-- one trade in the lent list
one_written : (t : Trade) (v : List ℕ) → trade_written 0 t v ≡ written (t ∷ []) v
unfolding trade_written
one_written t v = refl

-- the last one goes
last_goes : (w : List Order) (e : Order) → remove_at (w ++ (e ∷ [])) (length w) ≡ w
last_goes [] e = refl
last_goes (o ∷ w) e = ap (λ (l : List Order). o ∷ l) (last_goes w e)

module _ {r : Rules} {f : Floor} {i : ℕ} {v : List ℕ} (m : Meetable r f i v) where
  abbrev d : Day
  d = day_of r f

  abbrev t : List Turnover
  t = f.turnover

  abbrev last : ℕ
  last = f.count - 1

  -- those before the entry, and the two that meet
  abbrev w : List Order
  w = first_orders last f.orders

  abbrev e : Order
  e = last_order f

  abbrev counter : Order
  counter = order_at f.orders i

  pub met_room : f.count ≤ max_waiting
  met_room = omega (arith, m.standing.room, first_length f.count f.orders)

  long : length w ≡ last
  long = first_length last f.orders

  split : d.waiting ≡ w ++ (e ∷ [])
  split =
      let more : f.count ≡ last + 1 = omega (arith, m.inside) in
      ap (λ (n : ℕ). first_orders n f.orders) more ∙ first_next last f.orders

  read_last : order_at d.waiting last ≡ e
  read_last = first_at f.count f.orders last (omega (arith, m.inside))

  read_counter : order_at d.waiting i ≡ counter
  read_counter = first_at f.count f.orders i (omega (arith, m.inside))

  -- the places of buy and sell, and the two orders there
  abbrev bid : ℕ
  bid = if_buy e.side last i

  abbrev ask : ℕ
  ask = if_buy e.side i last

  abbrev buy : Order
  buy = order_at d.waiting bid

  abbrev sell : Order
  sell = order_at d.waiting ask

  abbrev p : ℕ
  p = price_or 0 e.kind

  abbrev n : ℕ
  n = e.lots

  abbrev At : Side → ℕ → List Order → Type 0
  At y j l = OfferAt y e.security p n t l j

  two : At Buy bid d.waiting × At Sell ask d.waiting
  two =
      let meet = subst (λ (o : Order). meets e o ≡ true) (sym (first_at last f.orders i m.inside)) m.meets in
      subst (λ (l : List Order). At Buy bid l × At Sell ask l) (sym split)
      (subst (λ (k : ℕ). At Buy (if_buy e.side k i) (w ++ (e ∷ [])) × At Sell (if_buy e.side i k) (w ++ (e ∷ []))) long
      (offers_meet t w e i (omega (arith, m.inside, long)) meet))

  pair : PairOk d e.security p bid ask n
  pair = record {
    standing = m.standing;
    buys = two.0.stands;
    sells = two.1.stands;
    price = omega (arith, two.0.price);
    bought = omega (arith, two.0.lots);
    sold = omega (arith, two.1.lots);
  }

  -- both have the lots of the trade
  full : ((order_at f.orders last).lots ≤ n) × (counter.lots ≤ n)
  full = go e.side two.0.lots two.1.lots
    where
      go : (y : Side) → (order_at d.waiting (if_buy y last i)).lots ≡ n → (order_at d.waiting (if_buy y i last)).lots ≡ n
          → ((order_at f.orders last).lots ≤ n) × (counter.lots ≤ n)
      go Buy a b = (omega arith, omega (arith, ap (λ (o : Order). o.lots) read_counter))
      go Sell a b = (omega arith, omega (arith, ap (λ (o : Order). o.lots) read_counter))

  -- the two orders by the entry's side
  buy_is : if_buy e.side e counter ≡ buy
  buy_is =
      sym (at_side d.waiting e.side last i
      ∙ ap (λ (o : Order). if_buy e.side o (order_at d.waiting i)) read_last
      ∙ ap (if_buy e.side e) read_counter)

  sell_is : if_buy e.side counter e ≡ sell
  sell_is =
      sym (at_side d.waiting e.side i last
      ∙ ap (λ (o : Order). if_buy e.side o (order_at d.waiting last)) read_counter
      ∙ ap (if_buy e.side counter) read_last)

  module _ {y z : Order} {q lots : ℕ} (one : y ≡ if_buy e.side e counter) (other : z ≡ if_buy e.side counter e)
      (price : q ≡ price_or 0 e.kind) (read : lots ≡ e.lots) where
    pub met_ready : Executable r f y z q lots 0 v
    met_ready = pair_executable r f pair (one ∙ buy_is) (other ∙ sell_is) price read v 0 (omega (arith, m.lent))

    -- the trade is made
    module _ {f1 : Floor} {v' : List ℕ} {made : Turnover} (done : Executes r f y z q lots 0 v f1 v' made) where
      listed : v' ≡ trade_written 0 (trade_of r buy sell p n) v
      listed = list_paired r f pair (one ∙ buy_is) (other ∙ sell_is) price read done

      same_orders : f1.orders ≡ f.orders
      same_orders = ap (λ (x : Floor). x.orders) done.floor

      -- those behind the counter offer moved over it, up to the entry
      module _ (room : f.count ≤ length f.orders) {u : List Order} (closed : u ≡ copy_within f1.orders (i + 1) last i) where
        -- both gave their places up
        gone : first_orders (last - 1) u ≡ take_both d.waiting bid ask n
        gone =
            let o = f.orders in
            ap (first_orders (last - 1)) (closed ∙ ap (λ (l : List Order). copy_within l (i + 1) last i) same_orders)
            ∙ gap_closed no_order o i last m.inside (omega arith)
            ∙ sym (filled_goes last o i n m.inside full.1)
            ∙ ap (λ (l : List Order). take_off l i n)
            (sym (filled_goes f.count o last n (omega (arith, m.inside)) full.0
            ∙ ap (λ (l : List Order). remove_at l last) split
            ∙ ap (remove_at (w ++ (e ∷ []))) (sym long)
            ∙ last_goes w e))
            ∙ sym (later_first d.waiting e.side last i n m.inside)

        pub met_done : MetAs (pair_up d e last i) e r v (record f1 { orders = u; count = last - 1 }) v' (Done e.code lots 0 1)
        met_done = record {
          day =
              day_paired r f pair (one ∙ buy_is) (other ∙ sell_is) price read done (record f1 { orders = u; count = last - 1 }) gone
              (ap (λ (x : Floor). x.codes) done.floor) (ap (λ (x : Floor). x.phase) done.floor)
              (ap (λ (x : Floor). x.turnover) done.floor) refl refl;
          list = listed ∙ one_written (trade_of r buy sell p n) v;
          answer = ap (λ (a : ℕ). Done e.code a 0 1) read;
        }
