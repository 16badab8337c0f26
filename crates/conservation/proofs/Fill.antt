-- The whole fill of an entry.
use Prim.Native.Nat.{ℕ, ◌+◌, ◌-◌, ◌≤◌, ◌<◌, min}
use native.Mathlib.Omega.{arith}
use mathlib.Core.Path.{◌≡◌, refl, sym}
use mathlib.Core.List.{[]}
use mathlib.Core.Bool.{false}
use lib.ListN.{length}
use Rattle.market.specs.declared.Order.{Order}
use Rattle.market.specs.declared.Side.{Side}
use Rattle.market.specs.declared.Side.TheVariants.{Buy, Sell}
use Rattle.market.specs.declared.TimeInForce.{TimeInForce}
use Rattle.market.specs.Tests.{◌=?◌, ◌and◌, sum_of}
use Rattle.market.specs.declared.Rules.{Rules}
use Rattle.market.specs.Day.{Day, no_order, order_at, with_lots}
use Rattle.market.specs.Codes.{codes_of}
use Rattle.market.specs.Positions.{settle}
use Rattle.market.specs.TradeList.{trade_of}
use Rattle.market.specs.Matching.{Filled, buy_of, fill, fits, fitting, found, if_buy, lots_at, sell_of, traded}
use Rattle.market.specs.Matching.{with_trade}
use Rattle.market.proofs.Logic.{and_fails, both_equal}
use Rattle.market.proofs.Lists.{All, all_at}
use Rattle.market.proofs.Waiting.{Differs, Fresh, fresh_take_off}
use Rattle.market.proofs.Matching.{Chosen, less_fitting, none_fitting}
use Rattle.market.proofs.Fill.{fill_all}
use Rattle.invariant.proofs.Flight.{one_more}
use Rattle.conservation.specs.Book.{Book, feed_trade, feed_trades}
use Rattle.conservation.specs.Statement.{own_lots}
use Rattle.conservation.proofs.Match.{Matching, next_trade}

-- lots of the entry's own side and code in its trades
own_trade : (r : Rules) (e o : Order) (p n : ℕ)
    → own_lots e.side e.participant e.code (trade_of r (buy_of e o) (sell_of e o) p n) ≡ n
unfolding own_lots
own_trade r e o p n = go e.side
  where
    go : (x : Side) → own_lots x e.participant e.code (trade_of r (if_buy x e o) (if_buy x o e) p n) ≡ n
    go Buy = rw (both_equal e.participant e.code)
    go Sell = rw (both_equal e.participant e.code)

-- keys other than these two have no lots in it
not_key : (p c : ℕ) (o : Order) → Differs p c o → (o.participant =? p and o.code =? c) ≡ false
not_key p c o h = and_fails o.participant p o.code c (λ x y. h (sym x) (sym y))

other_trade : (r : Rules) (e o : Order) (p n : ℕ) (x : Side) (q c : ℕ) → Differs q c e → Differs q c o
    → own_lots x q c (trade_of r (buy_of e o) (sell_of e o) p n) ≡ 0
unfolding own_lots
other_trade r e o p n x q c he ho = go x e.side
  where
    go : (x s : Side) → own_lots x q c (trade_of r (if_buy s e o) (if_buy s o e) p n) ≡ 0
    go Buy Buy = rw (not_key q c e he)
    go Buy Sell = rw (not_key q c o ho)
    go Sell Buy = rw (not_key q c o ho)
    go Sell Sell = rw (not_key q c e he)

-- what a fill of the entry e leaves
pub record FilledOk (U : Type 0) (k : TimeInForce) (rules : Rules) (b : Book) (d : Day) (e : Order) (r : Filled) :
    Type 0 where
  pub matching : Matching U k rules (feed_trades rules b r.trades) r.day r.entry
  pub ended : 0 < r.entry.lots → All (λ o. fits r.entry o ≡ false) r.day.waiting
  pub entry : r.entry ≡ with_lots e r.entry.lots
  pub codes : (p : ℕ) → codes_of r.day p ≡ codes_of d p
  pub own : sum_of (own_lots e.side e.participant e.code) r.trades + r.entry.lots ≡ e.lots
  pub full : e.lots ≤ fitting e d.waiting → r.entry.lots ≡ 0
  pub count : length r.trades + (length r.day.waiting + min 1 r.entry.lots)
      ≤ length d.waiting + min 1 e.lots
  pub few : length r.trades ≤ length d.waiting
  pub idle : e.lots ≡ 0 → length r.trades ≡ 0
  pub others : (x : Side) (q c : ℕ) → Fresh q c d.waiting → Differs q c e → sum_of (own_lots x q c) r.trades ≡ 0
  pub fresh : (q c : ℕ) → Fresh q c d.waiting → Fresh q c r.day.waiting

-- so with every book that agrees before it
abbrev Filling : Type 0 → TimeInForce → Rules → Day → Order → Filled → Type 0
Filling U k rules d e r = (b : Book) → Matching U k rules b d e → FilledOk U k rules b d e r

module _ (U : Type 0) (k : TimeInForce) (rules : Rules) where
  unfilled : (d : Day) (e : Order)
      → (0 < e.lots → All (λ o. fits e o ≡ false) d.waiting) → (e.lots ≤ fitting e d.waiting → e.lots ≡ 0)
      → Filling U k rules d e (record { day = d; entry = e; trades = [] })
  unfolding feed_trades
  unfilled d e ended full b m = record {
    matching = m;
    ended = ended;
    entry = refl;
    codes = λ p. refl;
    own = omega arith;
    full = full;
    count = omega arith;
    few = omega arith;
    idle = λ h. refl;
    others = λ x q c h f. refl;
    fresh = λ q c h. h;
  }

  trade : (d : Day) (e : Order) (i p : ℕ) → 0 < e.lots → Chosen e d.waiting (found i p) → (r : Filled) →
      let o : Order = order_at d.waiting i in
      let n : ℕ = min e.lots (lots_at d i) in
      Filling U k rules (traded d (buy_of e o) (sell_of e o) i p n) (with_lots e (e.lots - n)) r
      → Filling U k rules d e (with_trade (trade_of d.rules (buy_of e o) (sell_of e o) p n) r)
  unfolding feed_trades traded settle fitting fits
  trade d e i p some chosen r again b m =
      let o = order_at d.waiting i in
      let n = min e.lots (lots_at d i) in
      let t = trade_of d.rules (buy_of e o) (sell_of e o) p n in
      let f = again (feed_trade rules b t) (next_trade k b d e m i p n some chosen (omega arith) (omega arith)) in
      let more = one_more d.waiting i n e.lots _ _ chosen.0 refl some f.count f.few f.idle in
      record {
        matching = f.matching;
        ended = f.ended;
        entry = f.entry;
        codes = f.codes;
        own = omega (arith, own_trade d.rules e o p n, f.own);
        full = λ l. f.full (omega (arith, less_fitting e d.waiting i n chosen.0 chosen.1 (omega arith)));
        count = more.0;
        few = more.1;
        idle = λ h. absurd (omega arith);
        others = λ x q c unused differs. omega (
          arith,
          other_trade d.rules e o p n x q c differs
              (all_at (Differs q c) no_order d.waiting i unused chosen.0),
          f.others x q c (fresh_take_off q c d.waiting i n unused) differs,
        );
        fresh = λ q c unused. f.fresh q c (fresh_take_off q c d.waiting i n unused);
      }

  pub fill_ok : (d : Day) (e : Order) → Filling U k rules d e (fill d e)
  fill_ok d e =
      fill_all (Filling U k rules)
      (λ d e z. unfilled d e (λ l. absurd (omega arith)) (λ l. z))
      (λ d e c. unfilled d e (λ l. c) (λ l. omega (arith, none_fitting e d.waiting c)))
      trade d e
