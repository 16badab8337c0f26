-- A buy and a sell that wait in a sound day and trade outside Q and T: they can, and what the parts of the day are after it.
use Prim.Native.Nat.{ℕ, ◌+◌, ◌*◌, ◌≤◌, ◌<◌}
use native.Mathlib.Omega.{arith}
use mathlib.Core.Path.{◌≡◌, ap, ◌∙◌}
use mathlib.Core.List.{List, []}
use lib.ListN.{length}
use Rattle.market.specs.declared.Asset.{Asset}
use Rattle.market.specs.declared.Asset.TheVariants.{Money, Pieces}
use Rattle.market.specs.declared.Floor.{Floor}
use Rattle.market.specs.declared.Order.{Order}
use Rattle.market.specs.declared.Security.{Security}
use Rattle.market.specs.declared.Rules.{Rules}
use Rattle.market.specs.declared.Side.TheVariants.{Buy, Sell}
use Rattle.market.specs.declared.Turnover.{Turnover}
use Rattle.market.specs.Limits.{max_lots, max_price, numbers_per_trade}
use Rattle.market.specs.Day.{Day, no_order, order_at, row, turnover_at}
use Rattle.market.specs.View.{day_of, first_orders}
use Rattle.market.specs.Needs.{limit_of, need_at, pieces_of, value_for}
use Rattle.market.specs.Positions.{settle}
use Rattle.market.specs.TradeList.{trade_of}
use Rattle.market.specs.Pairing.{paired_off, take_both}
use Rattle.market.proofs.Lists.{all_at, sum_remove}
use Rattle.market.proofs.Needs.{pieces_small, value_small}
use Rattle.market.proofs.Known.{OrderOk, listing_ok}
use Rattle.market.proofs.Pairs.{Stands}
use Rattle.market.proofs.Codes.{given_top}
use Rattle.invariant.specs.Standing.{KindOk, Standing, needs_of}
use Rattle.invariant.proofs.Whole.{limit_fits}
use Rattle.invariant.proofs.Pairing.{pair_buy, pair_one_lem, pair_sell}
use Rattle.matching.specs.Execution.{Countable, Executable, Executes}
use Rattle.matching.specs.Written.{trade_written}
use Rattle.matching.proofs.Ready.{settled_day, settles}

-- the day is sound; the buy at place i and the sell at place j are of security s, and have n lots each that the buy can pay at
-- price p
pub record PairOk (d : Day) (s p i j n : ℕ) : Type 0 where
  pub standing : Standing d
  pub buys : Stands Buy s d.waiting i
  pub sells : Stands Sell s d.waiting j
  pub price : p ≤ limit_of d.turnover (order_at d.waiting i)
  pub bought : n ≤ (order_at d.waiting i).lots
  pub sold : n ≤ (order_at d.waiting j).lots

module _ (r : Rules) (f : Floor) {s p i j n : ℕ} (h : PairOk (day_of r f) s p i j n) where
  abbrev d : Day
  d = day_of r f

  abbrev t : List Turnover
  t = f.turnover

  abbrev buy : Order
  buy = order_at d.waiting i

  abbrev sell : Order
  sell = order_at d.waiting j

  abbrev own : Security
  own = row r buy.security

  pub buy_ok : OrderOk r buy
  buy_ok = pair_buy d h.standing s p i j n h.buys h.sells h.price h.bought h.sold

  sell_ok : OrderOk r sell
  sell_ok = pair_sell d h.standing s p i j n h.buys h.sells h.price h.bought h.sold

  same : sell.security ≡ buy.security
  same = pair_one_lem d h.standing s p i j n h.buys h.sells h.price h.bought h.sold

  limit : limit_of t buy ≤ max_price
  limit =
      limit_fits d h.standing buy buy_ok
      (all_at (KindOk d) no_order d.waiting i h.standing.kinds h.buys.inside)

  top : p ≤ max_price
  top = omega (arith, h.price, limit)

  -- what an order needs is among what all need
  listed : (q : ℕ) → q < length d.waiting → (y : Asset) (e : ℕ)
      → need_at y r t e (order_at d.waiting q) ≤ needs_of y d d.waiting e
  listed q hq y e = omega (arith, sum_remove (need_at y r t e) no_order d.waiting q hq)

  -- Q and T are as they were, and the trade is within what a trade can be
  countable : Countable (turnover_at t buy.security) (pieces_of own n) (value_for own p n)
  countable =
      let q = h.standing.turnovers buy.security buy_ok.security in
      let lot = h.standing.backed.rules_ok.lot buy.security buy_ok.security in
      let codes = given_top d h.standing.backed.rules_ok h.standing.limit in
      let lots : n ≤ max_lots = omega (arith, buy_ok.top, h.bought) in
      record {
        room_q = omega (arith, q.top);
        room_t = omega (arith, q.top, q.high);
        few = pieces_small own n lot lots;
        low = value_small own p n lot top lots;
      }

  -- the code's orders, price and lots
  module _ {y z : Order} {c w : ℕ} (one : y ≡ buy) (other : z ≡ sell) (price : c ≡ p) (part : w ≡ n) where
    -- they can trade, as trade number `number` of the lent list v
    pub pair_executable : (v : List ℕ) (number : ℕ) → numbers_per_trade * number + numbers_per_trade ≤ length v
        → Executable r f y z c w number v
    pair_executable v number lent =
        let ready : Executable r f buy sell p n number v = record {
          settles =
              settles [] d h.standing.backed buy sell p n buy_ok sell_ok h.buys.side h.sells.side same h.price
              h.bought h.sold (listed i h.buys.inside Money) (listed j h.sells.inside Pieces) top;
          reckoned = record {
            listing = listing_ok r buy.security h.standing.backed.rules_ok buy_ok.security;
            limit = limit;
            top = buy_ok.top;
            part = h.bought;
          };
          price = top;
          counts = countable;
          lent = lent;
        } in
        rw (one, other, price, part) ready

    -- they have traded
    module _ {number : ℕ} {v v' : List ℕ} {f1 : Floor} {u : Turnover} (done : Executes r f y z c w number v f1 v' u) where
      exact : Executes r f buy sell p n number v f1 v' u
      exact = rw (← one, ← other, ← price, ← part) done

      pub list_paired : v' ≡ trade_written number (trade_of r buy sell p n) v
      list_paired = exact.list

      pub day_paired : (f' : Floor) → first_orders f'.count f'.orders ≡ take_both d.waiting i j n → f'.codes ≡ f.codes
          → f'.phase ≡ f.phase → f'.turnover ≡ t → f'.money ≡ f1.money → f'.pieces ≡ f1.pieces
          → day_of r f' ≡ paired_off d i j p n
      unfolding paired_off settle
      day_paired f' waiting codes phase turnover money pieces =
          let positions = settled_day [] d h.standing.backed buy sell p n buy_ok sell_ok h.buys.side h.sells.side same
          h.price h.bought h.sold (listed i h.buys.inside Money) (listed j h.sells.inside Pieces) f'.money f'.pieces
          (money ∙ ap (λ (x : Floor). x.money) exact.floor) (pieces ∙ ap (λ (x : Floor). x.pieces) exact.floor) in
          let paid = ap (λ (y : Day). y.money) positions in
          let delivered = ap (λ (y : Day). y.pieces) positions in
          rw (waiting, codes, phase, turnover, paid, delivered)
