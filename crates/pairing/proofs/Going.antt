-- What holds at the head of the pairing loop: from here the definition comes to the same as from the start.
use Prim.Native.Nat.{ℕ, zero, suc, ◌+◌, ◌*◌, ◌≤◌, ◌<◌, max, min}
use native.Mathlib.Omega.{arith}
use mathlib.Core.Path.{◌≡◌, refl, ap, sym, ◌∙◌, subst}
use mathlib.Core.List.{List, [], ◌∷◌}
use lib.ListN.{length, take, take-append-drop}
use Rattle.std.specs.Prelude.{None, Some}
use Rattle.market.specs.declared.Floor.{Floor}
use Rattle.market.specs.declared.Order.{Order}
use Rattle.market.specs.declared.Rules.{Rules}
use Rattle.market.specs.declared.Side.TheVariants.{Buy, Sell}
use Rattle.market.specs.declared.Turnover.{Turnover}
use Rattle.market.specs.Limits.{max_lots, max_waiting, numbers_per_trade}
use Rattle.market.specs.Day.{Day, no_order, order_at}
use Rattle.market.specs.View.{day_of, first_orders}
use Rattle.market.specs.Positions.{settle}
use Rattle.market.specs.TradeList.{lots_of, trade_of}
use Rattle.market.specs.Matching.{Best, best, found, none}
use Rattle.market.specs.Pairing.{Paired, Terms, counterparty, first_buy, first_sell, paired_off, pairs}
use Rattle.market.specs.Pairing.{take_both}
use Rattle.market.proofs.Known.{OrderOk}
use Rattle.market.proofs.Lists.{All, all_at, all_map}
use Rattle.market.proofs.Matching.{Chosen, best_chosen}
use Rattle.market.proofs.Pairs.{Both as Lost, Meeting, Stands, meets, pairs_no_buy, pairs_no_sell, pairs_one, stand_apart}
use Rattle.market.proofs.View.{first_length, first_take}
use Rattle.matching.proofs.First.{first_at}
use Rattle.invariant.specs.Standing.{Standing}
use Rattle.invariant.proofs.Pairing.{Fair, FairTo, pair_standing, pair_two}
use Rattle.matching.specs.Execution.{Executable, Executes}
use Rattle.matching.specs.Written.{trade_written}
use Rattle.matching.proofs.Pairing.{PairOk, buy_ok, day_paired, list_paired, pair_executable}
use Rattle.matching.proofs.Writing.{written_length, written_next, written_from}
use Rattle.pairing.specs.declared.Pair.{Pair}
use Rattle.pairing.specs.declared.Tally.{Tally}
use Rattle.pairing.specs.Pairing.{Pairable, PairedAs, pair_of}
use Rattle.pairing.proofs.Taking.{Taking, Within}

-- both are found, at these places
pub record Both (x y : Best) (p : Pair) : Type 0 where
  pub buy_price : ℕ
  pub sell_price : ℕ
  pub buy : x ≡ found p.buy buy_price
  pub sell : y ≡ found p.sell sell_price

both_found : {p : Pair} (x y : Best) → Some p ≡ pair_of x y → Both x y p
both_found none y e = let z : ⊥ = cc in absurd z
both_found (found i a) none e = let z : ⊥ = cc in absurd z
both_found {p} (found i a) (found j c) e =
    let same : record { buy = i; sell = j } ≡ p = cc in
    record {
      buy_price = a;
      sell_price = c;
      buy = ap (λ (q : Pair). found q.buy a) same;
      sell = ap (λ (q : Pair). found q.sell c) same;
    }

-- an order that waits has lots, and a blank past the array's end has none
within_array : (r : Rules) (n : ℕ) (w : List Order) → All (OrderOk r) (first_orders n w) → n ≤ length w
within_array r zero w a = omega arith
within_array r (suc n) [] a = absurd (omega (arith, a.0.lots))
within_array r (suc n) (o ∷ w) a = omega (arith, within_array r n w a.1)

-- at the start: rules, security, terms, floor, tally, lent list
pub record Start : Type 0 where
  pub r : Rules
  pub s : ℕ
  pub t : Terms
  pub f : Floor
  pub c : Tally
  pub v : List ℕ

-- the pairing of the definition from this floor on, and from the start
abbrev pub rest_of : Start → Floor → Paired
rest_of g f = pairs g.s g.t (day_of g.r f)

abbrev pub whole : Start → Paired
whole g = rest_of g g.f

-- on this floor, with this tally
pub record Going (g : Start) (f : Floor) (c : Tally) (v : List ℕ) : Type 0 where
  pub here : Pairable g.r f g.s g.t c v
  pub long : length v ≡ length g.v
  pub day : (rest_of g f).day ≡ (whole g).day
  pub trades : c.trades + length (rest_of g f).trades ≡ g.c.trades + length (whole g).trades
  pub sum : c.lots + lots_of (rest_of g f).trades ≡ g.c.lots + lots_of (whole g).trades
  pub list : written_from c.trades (rest_of g f).trades v ≡ written_from g.c.trades (whole g).trades g.v

pub going_starts : (g : Start) → Pairable g.r g.f g.s g.t g.c g.v → Going g g.f g.c g.v
going_starts g p = record { here = p; long = refl; day = refl; trades = refl; sum = refl; list = refl }

module _ {g : Start} {f : Floor} {c : Tally} {v : List ℕ} (h : Going g f c v) where
  abbrev d : Day
  d = day_of g.r f

  abbrev st : Standing d
  st = h.here.standing

  pub going_room : f.count ≤ max_waiting
  going_room = omega (arith, st.room, first_length f.count f.orders)

  inside : f.count ≤ length f.orders
  inside = within_array g.r f.count f.orders st.orders

  -- the search's answer on the array's first places
  pub going_pair : {p : Pair} → Some p
      ≡ pair_of (best (counterparty Sell g.s g.t.limit) (take f.count f.orders))
      (best (counterparty Buy g.s g.t.limit) (take f.count f.orders))
      → Both (first_buy g.s g.t d) (first_sell g.s g.t d) p
  going_pair e =
      both_found (first_buy g.s g.t d) (first_sell g.s g.t d) (rw (first_take f.count f.orders inside) e)

  going_within : All Within d.waiting
  going_within = all_map (OrderOk g.r) Within d.waiting (λ o k. k.top) st.orders

  -- where one side is used up
  ends : rest_of g f ≡ record { day = d; trades = [] } → PairedAs (whole g) g.r g.c g.v f c v
  unfolding lots_of
  ends e = record {
    day = sym (ap (λ (p : Paired). p.day) e) ∙ h.day;
    standing = subst Standing (sym (ap (λ (p : Paired). p.day) e) ∙ h.day) st;
    lots = omega (arith, h.sum, ap (λ (p : Paired). lots_of p.trades) e);
    trades = omega (arith, h.trades, ap (λ (p : Paired). length p.trades) e);
    list =
        sym (take-append-drop (numbers_per_trade * c.trades) v)
        ∙ sym (ap (λ (p : Paired). written_from c.trades p.trades v) e)
        ∙ h.list;
  }

  pub going_ends : None
      ≡ pair_of (best (counterparty Sell g.s g.t.limit) (take f.count f.orders))
      (best (counterparty Buy g.s g.t.limit) (take f.count f.orders))
      → PairedAs (whole g) g.r g.c g.v f c v
  going_ends e =
      go (first_buy g.s g.t d) refl (first_sell g.s g.t d) refl (rw (first_take f.count f.orders inside) e)
    where
      go : (x : Best) → first_buy g.s g.t d ≡ x → (y : Best) → first_sell g.s g.t d ≡ y → None ≡ pair_of x y
          → PairedAs (whole g) g.r g.c g.v f c v
      go none p y q e = ends (pairs_no_buy g.s g.t d p)
      go (found i a) p none q e = ends (pairs_no_sell g.s g.t d i a p q)
      go (found i a) p (found j c) q e = let z : ⊥ = cc in absurd z

  -- the buy at place i and the sell at place j trade
  module _ {i j a b : ℕ} (eb : first_buy g.s g.t d ≡ found i a) (es : first_sell g.s g.t d ≡ found j b) where
    abbrev buy : Order
    buy = order_at d.waiting i

    abbrev sell : Order
    sell = order_at d.waiting j

    abbrev p : ℕ
    p = g.t.price

    abbrev n : ℕ
    n = min buy.lots sell.lots

    met : Meeting Buy g.s g.t.limit d.waiting i
    met =
        meets Buy g.s g.t.limit d.waiting i a
        (subst (λ (y : Best). Chosen (counterparty Sell g.s g.t.limit) d.waiting y) eb
        (best_chosen (counterparty Sell g.s g.t.limit) d.waiting))

    buys : Stands Buy g.s d.waiting i
    buys = met.stands

    sells : Stands Sell g.s d.waiting j
    sells =
        (meets Sell g.s g.t.limit d.waiting j b
        (subst (λ (y : Best). Chosen (counterparty Buy g.s g.t.limit) d.waiting y) es
        (best_chosen (counterparty Buy g.s g.t.limit) d.waiting))).stands

    pub going_buy : i < f.count
    going_buy = omega (arith, buys.inside, first_length f.count f.orders)

    pub going_sell : j < f.count
    going_sell = omega (arith, sells.inside, first_length f.count f.orders)

    going_apart : i ≡ j → ⊥
    going_apart = stand_apart g.s d.waiting i j buys sells

    pair : PairOk d g.s p i j n
    pair = record {
      standing = st;
      buys = buys;
      sells = sells;
      price =
          all_at (FairTo g.s g.t f.turnover) no_order d.waiting i h.here.fair buys.inside buys.security
          met.reach;
      bought = omega arith;
      sold = omega arith;
    }

    going_lent : numbers_per_trade * c.trades + numbers_per_trade ≤ length v
    going_lent = omega (arith, h.here.counts.lent, going_buy)

    pub going_taking : {later earlier : ℕ} → later ≡ max i j → earlier ≡ min i j
        → Taking f.orders f.count i j later earlier
    going_taking last first = record {
      one = going_buy;
      other = going_sell;
      apart = going_apart;
      room = inside;
      within = going_within;
      last = last;
      first = first;
    }

    pub going_lots : c.lots + n ≤ max_lots * (c.trades + 1)
    going_lots = omega (arith, h.here.counts.few, (buy_ok g.r f pair).top)

    both : Lost d.waiting i j n (take_both d.waiting i j n)
    both = pair_two d st g.s p i j n buys sells pair.price pair.bought pair.sold

    -- so many lots have both orders that the code reads
    module _ {w : ℕ} (read : w ≡ min (order_at f.orders i).lots (order_at f.orders j).lots) where
      abbrev y : Order
      y = order_at f.orders i

      abbrev z : Order
      z = order_at f.orders j

      one : y ≡ buy
      one = sym (first_at f.count f.orders i going_buy)

      other : z ≡ sell
      other = sym (first_at f.count f.orders j going_sell)

      pub part : w ≡ n
      part = read ∙ ap (λ (o : Order). min o.lots z.lots) one ∙ ap (λ (o : Order). min buy.lots o.lots) other

      pub going_less : (count : ℕ) (l : List Order) → first_orders count l ≡ take_both d.waiting i j w → count < f.count
      going_less count l e =
          omega (
            arith,
            both.shorter (omega arith),
            ap length (e ∙ ap (take_both d.waiting i j) part),
            first_length f.count f.orders,
            first_length count l,
          )

      pub going_ready : Executable g.r f y z p w c.trades v
      going_ready = pair_executable g.r f pair one other refl part v c.trades going_lent

      -- what it hands over: the floor after the trade
      module _ {f1 : Floor} {v' : List ℕ} {q : Turnover} (done : Executes g.r f y z p w c.trades v f1 v' q) (f' : Floor)
          (waiting : first_orders f'.count f'.orders ≡ take_both d.waiting i j w) (codes : f'.codes ≡ f.codes)
          (phase : f'.phase ≡ f.phase) (turnover : f'.turnover ≡ f.turnover) (money : f'.money ≡ f1.money)
          (pieces : f'.pieces ≡ f1.pieces) where
        off : first_orders f'.count f'.orders ≡ take_both d.waiting i j n
        off = waiting ∙ ap (take_both d.waiting i j) part

        after : day_of g.r f' ≡ paired_off d i j p n
        after = day_paired g.r f pair one other refl part done f' off codes phase turnover money pieces

        fair_after : Fair g.s g.t (paired_off d i j p n)
        unfolding paired_off settle
        fair_after = both.all (FairTo g.s g.t f.turnover) (λ o e u. e) h.here.fair

        pub going_next : Going g f' (record { lots = c.lots + w; trades = c.trades + 1 }) v'
        unfolding lots_of
        going_next =
            let trade = trade_of g.r buy sell p n in
            let rest = rest_of g f' in
            let again : rest_of g f ≡ record { day = rest.day; trades = trade ∷ rest.trades } =
            pairs_one g.s g.t d i j a b eb es
            ∙ ap (λ (x : Day). record {
              day = (pairs g.s g.t x).day;
              trades = trade ∷ (pairs g.s g.t x).trades;
            }) (sym after) in
            let listed : v' ≡ trade_written c.trades trade v = list_paired g.r f pair one other refl part done in
            let same : length v' ≡ length v = ap length listed ∙ written_length v c.trades trade going_lent in
            let less : f'.count < f.count = going_less f'.count f'.orders waiting in
            record {
              here = record {
                known = h.here.known;
                standing =
                    subst Standing (sym after)
                    (pair_standing d st g.s p i j n buys sells pair.price pair.bought pair.sold);
                fair = subst (Fair g.s g.t) (sym after) fair_after;
                counts = record {
                  most = omega (arith, h.here.counts.most, less);
                  few = omega (arith, part, going_lots);
                  lent = omega (arith, h.here.counts.lent, less, same);
                };
              };
              long = same ∙ h.long;
              day = sym (ap (λ (x : Paired). x.day) again) ∙ h.day;
              trades = omega (arith, h.trades, ap (λ (x : Paired). length x.trades) again);
              sum = omega (arith, part, h.sum, ap (λ (x : Paired). lots_of x.trades) again);
              list =
                  ap (written_from (c.trades + 1) rest.trades) listed
                  ∙ sym (written_next v c.trades trade going_lent rest.trades)
                  ∙ sym (ap (λ (x : Paired). written_from c.trades x.trades v) again)
                  ∙ h.list;
            }
