-- A trade of an entry keeps what holds while it is matched, and so does the whole fill.
use Prim.Native.Nat.{ℕ, suc, ◌+◌, ◌-◌, ◌≤◌, ◌<◌, min}
use native.Mathlib.Omega.{arith}
use mathlib.Core.Path.{◌≡◌, refl, sym, subst}
use mathlib.Core.List.{List, [], ◌∷◌, ◌++◌}
use mathlib.Core.Bool.{Bool, true, false}
use lib.ListN.{length, length-set}
use Rattle.market.specs.declared.Order.{Order}
use Rattle.market.specs.declared.Side.{Side}
use Rattle.market.specs.declared.Side.TheVariants.{Buy, Sell}
use Rattle.market.specs.declared.Turnover.{Turnover}
use Rattle.market.specs.Limits.{max_price}
use Rattle.market.specs.Tests.{sum_of}
use Rattle.market.specs.declared.Rules.{Rules}
use Rattle.market.specs.declared.Asset.{Asset}
use Rattle.market.specs.Day.{Day, no_order, no_turnover, row, order_at, turnover_at, with_lots}
use Rattle.market.specs.Codes.{codes_of, given}
use Rattle.market.specs.Needs.{limit_of, need_at, only, pieces_of}
use Rattle.market.specs.Positions.{counted, settle}
use Rattle.market.specs.Waiting.{filled_by, take_off}
use Rattle.market.specs.TradeList.{trade_of}
use Rattle.market.specs.Matching.{Filled, buy_of, fill, found, if_buy, lots_at, opposite, price_of, reaches}
use Rattle.market.specs.Matching.{sell_of, traded, with_trade}
use Rattle.market.proofs.Logic.{never}
use Rattle.market.proofs.Lists.{All, all_at, sum_all}
use Rattle.market.proofs.Needs.{kept_limit, need_falls, need_none, priced_need}
use Rattle.market.proofs.Known.{OrderOk, is_kept_lem, kept_open, kept_price_lem, open_kept, open_priced}
use Rattle.market.proofs.Turnovers.{TurnoverOk, turnover_trade}
use Rattle.market.proofs.Waiting.{all_take_off, filled_no, filled_yes, gone, length_take_off_le, stays, sum_take_off}
use Rattle.market.proofs.Codes.{numbered_trade}
use Rattle.market.proofs.Matching.{Chosen, Fit, fit, reach_buy, reach_kept}
use Rattle.market.proofs.Fill.{fill_all}
use Rattle.invariant.specs.Standing.{Backed, EntryOk, InFlight, PricedOk, needs_of}
use Rattle.invariant.proofs.Trade.{fall_at, trade_backed}

pub less_ok : (r : Rules) (n : ℕ) (o : Order) → OrderOk r o → n < o.lots → OrderOk r (with_lots o (o.lots - n))
less_ok r n o ok h = record {
  participant = ok.participant;
  security = ok.security;
  lots = omega arith;
  top = omega (arith, ok.top);
}

-- a trade of the entry e with the best counter order, which waits at place i, at its price p
module _ (d : Day) (e : Order) (f : InFlight d e) (i p n : ℕ) (some : 0 < e.lots)
    (chosen : Chosen e d.waiting (found i p)) (ne : n ≤ e.lots) (no : n ≤ lots_at d i) where
  abbrev o : Order
  o = order_at d.waiting i

  abbrev rest : Order
  rest = with_lots e (e.lots - n)

  abbrev left : List Order
  left = take_off d.waiting i n

  pub fitting : Fit e o
  fitting = fit e o chosen.1

  pub ok_e : OrderOk d.rules e
  ok_e = record { participant = f.participant; security = f.security; lots = some; top = f.top }

  pub ok_o : OrderOk d.rules o
  ok_o = all_at (OrderOk d.rules) no_order d.waiting i f.orders chosen.0

  -- an offer fits no entry
  kept_o : EntryOk d.rules o
  kept_o =
      open_kept d.rules o.security no_turnover o.kind
      (all_at (PricedOk d.rules) no_order d.waiting i f.priced chosen.0)
      (reach_kept e.side e.kind o.kind (is_kept_lem d.rules e.security e.kind f.entry_priced) fitting.price)

  pub range : (1 ≤ p) × (p ≤ max_price)
  range =
      let q = kept_price_lem d.rules o.security o.kind kept_o in
      (omega (arith, chosen.2, q.0), omega (arith, chosen.2, q.1))

  -- the limits of entry and waiting order are their own prices
  pub limit_e : limit_of d.turnover e ≡ price_of e
  limit_e = kept_limit d.turnover e (is_kept_lem d.rules e.security e.kind f.entry_priced)

  pub limit_o : limit_of d.turnover o ≡ price_of o
  limit_o = kept_limit d.turnover o (is_kept_lem d.rules o.security o.kind kept_o)

  -- the buyer's limit is at least the price, and a price
  pub buyer_pays : (x : Side) → reaches x e.kind o.kind ≡ true
      → (p ≤ limit_of d.turnover (if_buy x e o)) × (limit_of d.turnover (if_buy x e o) ≤ max_price)
  buyer_pays Buy l =
      let q = kept_price_lem d.rules e.security e.kind f.entry_priced in
      (omega (arith, chosen.2, reach_buy e.kind o.kind l, limit_e), omega (arith, limit_e, q.1))
  buyer_pays Sell l = (omega (arith, chosen.2, limit_o), omega (arith, chosen.2, limit_o, range.1))

  -- all that waits or is pending after the trade has a price, so its needs don't depend on the turnover
  after_priced : All (PricedOk d.rules) ((rest ∷ []) ++ left)
  after_priced = (
    kept_open d.rules e.security no_turnover e.kind f.entry_priced,
    all_take_off (PricedOk d.rules) d.waiting i n (λ x a h. a) f.priced,
  )

  pub same_needs : (t' : List Turnover) (y : Asset) (j : ℕ)
      → sum_of (need_at y d.rules t' j) ((rest ∷ []) ++ left) ≡ needs_of y d ((rest ∷ []) ++ left) j
  same_needs t' y j =
      sum_all (PricedOk d.rules) (need_at y d.rules t' j) (need_at y d.rules d.turnover j)
      ((rest ∷ []) ++ left)
      (λ x h. priced_need y d.rules d.turnover t' j x (open_priced (row d.rules x.security) no_turnover x.kind h).0)
      after_priced

  pub needs_left : (y : Asset) (j : ℕ)
      → needs_of y d ((rest ∷ []) ++ left) j + (fall_at y d e n j + fall_at y d o n j)
      ≡ needs_of y d ((e ∷ []) ++ d.waiting) j
  needs_left y j =
      let g = need_at y d.rules d.turnover j in
      let a = sum_take_off g d.waiting i n chosen.0 no (need_none y d.rules d.turnover j o) in
      omega (
        arith,
        need_falls y d.rules d.turnover j e n ne,
        need_falls y d.rules d.turnover j o n no,
      )

  abbrev Bounded : ℕ → Type 0
  Bounded y = (s : ℕ) → s < d.rules.securities
      → TurnoverOk (given d) (only e.security s (pieces_of (row d.rules e.security) rest.lots))
      (turnover_at (counted d.rules d.turnover y p n) s)

  own : Bounded e.security
  own =
      turnover_trade d.rules (given d) d.turnover e.security p n e.lots
      (omega (arith, f.turnover_length, f.security, f.backed.rules_ok.securities)) ne range.0 range.1
      f.turnovers

  bounds : (x : Side) → Bounded (if_buy x e o).security
  bounds Buy = own
  bounds Sell = subst Bounded fitting.security own

  -- buyer and seller, by the side x of the entry and y of the waiting order
  sides : (x y : Side) → e.side ≡ x → o.side ≡ y → opposite x y ≡ true → reaches x e.kind o.kind ≡ true
      → Backed (rest ∷ []) (traded d (if_buy x e o) (if_buy x o e) i p n)
  unfolding traded
  sides Buy Buy ex oy q l = never q
  sides Sell Sell ex oy q l = never q
  sides Buy Sell ex oy q l =
      trade_backed (e ∷ []) (rest ∷ []) left d e o p n (counted d.rules d.turnover e.security p n)
      f.backed ok_e ok_o ex oy (sym fitting.security) (buyer_pays Buy l).0 ne no needs_left (same_needs _)
  sides Sell Buy ex oy q l =
      trade_backed (e ∷ []) (rest ∷ []) left d o e p n (counted d.rules d.turnover o.security p n)
      f.backed ok_o ok_e oy ex fitting.security (buyer_pays Sell l).0 no ne
      (λ y j. omega (arith, needs_left y j)) (same_needs _)

  pub flight_next : InFlight (traded d (buy_of e o) (sell_of e o) i p n) rest
  unfolding traded settle counted
  flight_next = record {
    backed = sides e.side o.side refl refl fitting.side fitting.price;
    orders = all_take_off (OrderOk d.rules) d.waiting i n (less_ok d.rules n) f.orders;
    codes = numbered_trade (given d) (codes_of d) d.waiting e f.codes i n (e.lots - n) chosen.0;
    phase = f.phase;
    participant = f.participant;
    security = f.security;
    top = omega (arith, f.top);
    priced = after_priced.1;
    entry_priced = f.entry_priced;
    limit = f.limit;
    room = omega (arith, length_take_off_le d.waiting i n chosen.0, f.room);
    turnover_length = simp length-set f.turnover_length;
    turnovers = bounds e.side;
  }

-- a trade takes an order off or fills the entry, which then trades no more
pub one_more : (w : List Order) (i n lots t v : ℕ) → i < length w → n ≡ min lots (order_at w i).lots → 0 < lots
    → t + v ≤ length (take_off w i n) + min 1 (lots - n) → t ≤ length (take_off w i n) → (lots - n ≡ 0 → t ≡ 0)
    → (suc t + v ≤ length w + min 1 lots) × (suc t ≤ length w)
one_more w i n lots t v h e some all few idle = go (filled_by n (order_at w i)) refl
  where
    go : (k : Bool) → filled_by n (order_at w i) ≡ k → (suc t + v ≤ length w + min 1 lots) × (suc t ≤ length w)
    go true q =
        let g = gone w i n h (filled_yes n (order_at w i) q) in
        (omega arith, omega arith)
    go false q =
        let l = filled_no n (order_at w i) q in
        let s = stays w i n l in
        let z = idle (omega arith) in
        (omega arith, omega arith)

-- how many trades a fill makes, and what it leaves
pub record FewTrades (d : Day) (e : Order) (r : Filled) : Type 0 where
  pub entry : r.entry ≡ with_lots e r.entry.lots
  pub less : r.entry.lots ≤ e.lots
  pub count : length r.trades + (length r.day.waiting + min 1 r.entry.lots)
      ≤ length d.waiting + min 1 e.lots
  pub few : length r.trades ≤ length d.waiting
  pub idle : e.lots ≡ 0 → length r.trades ≡ 0
  pub codes : r.day.codes ≡ d.codes

pub fill_few : (d : Day) (e : Order) → FewTrades d e (fill d e)
fill_few d e = fill_all FewTrades (λ d e z. none d e) (λ d e c. none d e) trade d e
  where
    none : (d : Day) (e : Order) → FewTrades d e (record { day = d; entry = e; trades = [] })
    none d e = record { entry = refl; less = omega arith; count = omega arith; few = omega arith; idle = λ h. refl; codes = refl }

    trade : (d : Day) (e : Order) (i p : ℕ) → 0 < e.lots → Chosen e d.waiting (found i p) → (r : Filled) →
        let o : Order = order_at d.waiting i in
        let n : ℕ = min e.lots (lots_at d i) in
        FewTrades (traded d (buy_of e o) (sell_of e o) i p n) (with_lots e (e.lots - n)) r
        → FewTrades d e (with_trade (trade_of d.rules (buy_of e o) (sell_of e o) p n) r)
    trade d e i p some chosen r f =
        unfold traded settle in
        (let n = min e.lots (lots_at d i) in
        let more = one_more d.waiting i n e.lots _ _ chosen.0 refl some f.count f.few f.idle in
        record {
          entry = f.entry;
          less = omega (arith, f.less);
          count = more.0;
          few = more.1;
          idle = λ h. absurd (omega arith);
          codes = f.codes;
        })

-- what holds while an entry is matched holds when its fill ends
abbrev Lands : Day → Order → Filled → Type 0
Lands d e r = InFlight d e → InFlight r.day r.entry

pub fill_flight : (d : Day) (e : Order) → InFlight d e → InFlight (fill d e).day (fill d e).entry
fill_flight d e =
    fill_all Lands (λ d e z f. f) (λ d e c f. f)
    (λ d e i p some chosen r again f.
    again (flight_next d e f i p (min e.lots (lots_at d i)) some chosen (omega arith) (omega arith))) d e
