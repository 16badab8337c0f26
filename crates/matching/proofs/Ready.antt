-- Why no step of a trade goes below zero or past 64 bits, and what the parts of the day are after it.
use Prim.Native.Nat.{ℕ, ◌+◌, ◌*◌, ◌≤◌, ◌<◌}
use native.Mathlib.Omega.{arith}
use mathlib.Core.Path.{◌≡◌, refl, ap, sym, ◌∙◌, subst}
use mathlib.Core.List.{List, [], ◌∷◌, ◌++◌}
use mathlib.Core.Bool.{true}
use lib.ListN.{length, set}
use Rattle.market.specs.declared.Floor.{Floor}
use Rattle.market.specs.declared.Listing.{Listing}
use Rattle.market.specs.declared.Order.{Order}
use Rattle.market.specs.declared.Side.{Side}
use Rattle.market.specs.declared.Side.TheVariants.{Buy, Sell}
use Rattle.market.specs.declared.Turnover.{Turnover}
use Rattle.market.specs.Limits.{market, max_lots, max_price, money_limit, numbers_per_trade}
use Rattle.market.specs.declared.Rules.{Rules}
use Rattle.market.specs.declared.Asset.{Asset}
use Rattle.market.specs.declared.Asset.TheVariants.{Money, Pieces}
use Rattle.market.specs.Day.{Day, columns_of, currency_of, row, no_order, order_at, cell, total_limit, turnover_at}
use Rattle.market.specs.Day.{with_money, with_pieces}
use Rattle.market.specs.View.{day_of, first_orders}
use Rattle.market.specs.Needs.{asset_of, both_fees, cell_for, column_of, limit_of, need, need_at, pieces_of, proceeds, sum_for}
use Rattle.market.specs.Needs.{value_for, with_fee}
use Rattle.market.specs.Positions.{change, counted, counting, fall, money_settled, pay, pieces_settled, receive, settle}
use Rattle.market.specs.Parts.{listing}
use Rattle.market.specs.Waiting.{take_off}
use Rattle.market.specs.Matching.{buy_of, found, if_buy, opposite, reaches, sell_of, traded}
use Rattle.market.proofs.Logic.{never}
use Rattle.market.proofs.Lists.{all_map, sum_remove}
use Rattle.market.proofs.Amounts.{only_same}
use Rattle.market.proofs.Needs.{fall_pays, fall_sells, fee_shared, need_own, pieces_small, pieces_split, sum_small}
use Rattle.market.proofs.Needs.{value_small}
use Rattle.market.proofs.Known.{OrderOk, listing_ok}
use Rattle.market.proofs.Matching.{Chosen}
use Rattle.market.proofs.Codes.{given_top}
use Rattle.positions.specs.Payable.{Payable}
use Rattle.invariant.specs.Standing.{Backed, Held, InFlight, Standing, needs_of}
use Rattle.invariant.proofs.Held.{held_account, held_cell, held_within}
use Rattle.invariant.proofs.Flight.{buyer_pays, fitting, ok_e, ok_o, range}
use Rattle.matching.specs.Execution.{Countable, Executable, Executes, Settles, money_after}
use Rattle.matching.specs.Execution.{pieces_after}
use Rattle.matching.specs.Orders.{FewLots}

-- the lots of a sound day's orders can be added up
pub few_waiting : (d : Day) → Standing d → FewLots d.waiting
few_waiting d st = record {
  room = st.room;
  lots = all_map (OrderOk d.rules) (λ o. o.lots ≤ max_lots) d.waiting (λ o ok. ok.top) st.orders;
}

-- what is needed is blocked, so it can be paid, in money as in pieces
payable : {y : Asset} {r : Rules} {m : List ℕ} {needs : ℕ → ℕ}
    → Held y r m needs → total_limit y ≤ money_limit → (q s c fall cost gain : ℕ)
    → q < r.participants → s < r.participants → c < columns_of y r → fall ≤ needs (cell q c) → cost ≤ fall → gain ≤ cost
    → Payable m (cell q c) fall cost (cell s c) gain
payable h top q s c fall cost gain hq hs hc needed pays gains = record {
  size = h.positions;
  payer_known = held_cell h q c hq hc;
  receiver_known = held_cell h s c hs hc;
  covered = omega (arith, h.blocked q c hq hc);
  pays = pays;
  gains = gains;
  payer_total = omega (arith, held_within h q c hq hc);
  receiver_total = omega (arith, held_within h s c hs hc);
}

-- what an order needs where an order of its side blocks
need_there : (r : Rules) (t : List Turnover) (o : Order) (x : Side) → o.side ≡ x
    → need_at (asset_of x) r t (cell o.participant (column_of x r o.security)) o ≡ need r t o
need_there r t o x e =
    subst (λ (y : Side). need_at (asset_of y) r t (cell o.participant (column_of y r o.security)) o ≡ need r t o) e
    (need_own r t o)

-- a buy and a sell among the orders that block: x are pending, the others wait
module _ (x : List Order) (d : Day) (backed : Backed x d) (buy sell : Order) (p n : ℕ)
    (buy_ok : OrderOk d.rules buy) (sell_ok : OrderOk d.rules sell)
    (buys : buy.side ≡ Buy) (sells : sell.side ≡ Sell) (same : sell.security ≡ buy.security)
    (price : p ≤ limit_of d.turnover buy)
    (bought : n ≤ buy.lots) (sold : n ≤ sell.lots)
    (buyer : (j : ℕ) → need_at Money d.rules d.turnover j buy ≤ needs_of Money d (x ++ d.waiting) j)
    (seller : (j : ℕ) → need_at Pieces d.rules d.turnover j sell ≤ needs_of Pieces d (x ++ d.waiting) j) where
  abbrev own : Listing
  own = listing d.rules buy.security

  abbrev falls : ℕ
  falls = fall d.rules d.turnover buy n

  sells_all : pieces_of own.row n ≡ fall d.rules d.turnover sell n
  sells_all =
      sym (fall_sells d.rules d.turnover sell n sells sold
      ∙ ap (λ (k : ℕ). pieces_of (row d.rules k) n) same)

  pub settles : p ≤ max_price → Settles own buy sell falls (sum_for own.row p n) (pieces_of own.row n) d.money d.pieces
  settles top =
      let rules = backed.rules_ok in
      let s = buy.security in
      let c = currency_of d.rules s in
      let hc = rules.currency s buy_ok.security in
      let sum = sum_for own.row p n in
      let pieces = pieces_of own.row n in
      let shared = fee_shared own.rate sum rules.rate in
      let paid : falls ≤ needs_of Money d (x ++ d.waiting) (cell buy.participant c) =
      omega (arith, need_there d.rules d.turnover buy Buy buys, buyer (cell buy.participant c)) in
      let given : pieces ≤ needs_of Pieces d (x ++ d.waiting) (cell sell.participant s) =
      subst (λ (k : ℕ). pieces ≤ needs_of Pieces d (x ++ d.waiting) (cell sell.participant k)) same
      (omega (
        arith,
        sells_all,
        need_there d.rules d.turnover sell Sell sells,
        seller (cell sell.participant sell.security),
      )) in
      record {
        buyer = omega (arith, buy_ok.participant, rules.participants);
        seller = omega (arith, sell_ok.participant, rules.participants);
        security = omega (arith, buy_ok.security, rules.securities);
        currency = omega (arith, hc, rules.currencies);
        rate = rules.rate;
        small = sum_small own.row p n (rules.lot s buy_ok.security) (rules.nominal s buy_ok.security) top (omega (arith, buy_ok.top));
        account = held_account (backed.held Money) c hc;
        money =
            payable (backed.held Money) (omega arith) buy.participant sell.participant c falls
            (with_fee own.rate sum) (proceeds own.rate sum) buy_ok.participant sell_ok.participant hc paid
            (fall_pays d.rules d.turnover buy p n buys price bought) (omega (arith, shared));
        pieces =
            payable (backed.held Pieces) (omega arith) sell.participant buy.participant s pieces pieces
            pieces sell_ok.participant buy_ok.participant buy_ok.security given (omega arith) (omega arith);
      }

  -- money and pieces after the trade
  pub settled_day : (m k : List ℕ) → m ≡ money_after own buy sell falls (sum_for own.row p n) d.money
      → k ≡ pieces_after buy sell (pieces_of own.row n) d.pieces → with_pieces (with_money d m) k ≡ settle d buy sell p n
  unfolding settle
  settled_day m k em ek =
      let c = currency_of d.rules buy.security in
      let rate = own.rate in
      let sum = sum_for own.row p n in
      let pieces = pieces_of own.row n in
      let payer : cell buy.participant c ≡ cell_for d.rules buy = rw buys in
      let holder : cell sell.participant buy.security ≡ cell_for d.rules sell = rw (sells, same) in
      let paid : m ≡ money_settled d buy sell n sum =
      em
      ∙ ap (λ (i : ℕ). change (change (change d.money i (pay falls (with_fee rate sum))) (cell sell.participant c)
      (receive (proceeds rate sum))) (cell market c) (receive (both_fees rate sum))) payer in
      let delivered : k ≡ pieces_settled d buy sell n pieces =
      ek
      ∙ ap (λ (i : ℕ). change (change d.pieces i (pay pieces pieces)) (cell buy.participant buy.security)
      (receive pieces)) holder
      ∙ ap (λ (x : ℕ). change (change d.pieces (cell_for d.rules sell) (pay x pieces))
      (cell buy.participant buy.security) (receive pieces)) sells_all in
      rw (paid, delivered)

-- the entry e trades n lots with the order at place i, at its price p
module _ (r : Rules) (f : Floor) {e : Order} (flight : InFlight (day_of r f) e) (i p n : ℕ) (some : 0 < e.lots)
    (chosen : Chosen e (day_of r f).waiting (found i p)) (ne : n ≤ e.lots)
    (no : n ≤ (order_at (day_of r f).waiting i).lots) where
  abbrev d : Day
  d = day_of r f

  abbrev o : Order
  o = order_at d.waiting i

  abbrev t : List Turnover
  t = f.turnover

  entry_listed : (y : Asset) (j : ℕ) → need_at y r t j e ≤ needs_of y d ((e ∷ []) ++ d.waiting) j
  entry_listed y j = omega arith

  waiting_listed : (y : Asset) (j : ℕ) → need_at y r t j o ≤ needs_of y d ((e ∷ []) ++ d.waiting) j
  waiting_listed y j = omega (arith, sum_remove (need_at y r t j) no_order d.waiting i chosen.0)

  abbrev Fits : Order → Order → Type 0
  Fits buy sell =
      Settles (listing r buy.security) buy sell (fall r t buy n) (sum_for (row r buy.security) p n)
      (pieces_of (row r buy.security) n) f.money f.pieces
      × ((m' k' : List ℕ)
      → m' ≡ money_after (listing r buy.security) buy sell (fall r t buy n) (sum_for (row r buy.security) p n) f.money
      → k' ≡ pieces_after buy sell (pieces_of (row r buy.security) n) f.pieces
      → with_pieces (with_money d m') k' ≡ settle d buy sell p n)

  sides : (x y : Side) → e.side ≡ x → o.side ≡ y → opposite x y ≡ true → reaches x e.kind o.kind ≡ true
      → Fits (if_buy x e o) (if_buy x o e)
  sides Buy Buy ex oy q h = never q
  sides Sell Sell ex oy q h = never q
  sides Buy Sell ex oy q h =
      let same = sym (fitting d e flight i p n some chosen ne no).security in
      let price = (buyer_pays d e flight i p n some chosen ne no Buy h).0 in
      let top = (range d e flight i p n some chosen ne no).1 in
      let eOk = ok_e d e flight i p n some chosen ne no in
      let oOk = ok_o d e flight i p n some chosen ne no in (
        settles (e ∷ []) d flight.backed e o p n eOk oOk ex oy same price ne no (entry_listed Money)
            (waiting_listed Pieces) top,
        settled_day (e ∷ []) d flight.backed e o p n eOk oOk ex oy same price ne no (entry_listed Money)
            (waiting_listed Pieces),
      )
  sides Sell Buy ex oy q h =
      let same = (fitting d e flight i p n some chosen ne no).security in
      let price = (buyer_pays d e flight i p n some chosen ne no Sell h).0 in
      let top = (range d e flight i p n some chosen ne no).1 in
      let eOk = ok_e d e flight i p n some chosen ne no in
      let oOk = ok_o d e flight i p n some chosen ne no in (
        settles (e ∷ []) d flight.backed o e p n oOk eOk oy ex same price no ne (waiting_listed Money)
            (entry_listed Pieces) top,
        settled_day (e ∷ []) d flight.backed o e p n oOk eOk oy ex same price no ne (waiting_listed Money)
            (entry_listed Pieces),
      )

  both : Fits (buy_of e o) (sell_of e o)
  both =
      let h = fitting d e flight i p n some chosen ne no in
      sides e.side o.side refl refl h.side h.price

  -- buy and sell are of the entry's security
  security_is : (x : Side) → (if_buy x e o).security ≡ e.security
  security_is Buy = refl
  security_is Sell = sym (fitting d e flight i p n some chosen ne no).security

  top_of : (x : Side) → ((if_buy x e o).lots ≤ max_lots) × (n ≤ (if_buy x e o).lots)
  top_of Buy = (flight.top, ne)
  top_of Sell = ((ok_o d e flight i p n some chosen ne no).top, no)

  -- Q + pieces ≤ 10^7 × codes and T ≤ 10^6 × Q, with at most 10^6 codes
  counts : Countable (turnover_at t e.security) (pieces_of (row r e.security) n) (value_for (row r e.security) p n)
  counts =
      let g = flight in
      let s = e.security in
      let x = row r s in
      let q = g.turnovers s g.security in
      let room = only_same s (pieces_of x e.lots) in
      let split = pieces_split x e.lots n ne in
      let price = range d e g i p n some chosen ne no in
      let codes = given_top d g.backed.rules_ok g.limit in
      let lot = g.backed.rules_ok.lot s g.security in
      let lots : n ≤ max_lots = omega (arith, g.top) in
      record {
        room_q = omega (arith, q.top);
        room_t = omega (arith, q.top, q.high);
        few = pieces_small x n lot lots;
        low = value_small x p n lot price.1 lots;
      }

  pub executable : (v : List ℕ) (j : ℕ) → numbers_per_trade * j + numbers_per_trade ≤ length v
      → Executable r f (buy_of e o) (sell_of e o) p n j v
  executable v j lent =
      let s = security_is e.side in
      let price = range d e flight i p n some chosen ne no in
      let h = fitting d e flight i p n some chosen ne no in
      let limit = (buyer_pays d e flight i p n some chosen ne no e.side h.price).1 in
      let lots = top_of e.side in
      record {
        settles = both.0;
        reckoned = record {
          listing = listing_ok r (buy_of e o).security flight.backed.rules_ok (omega (arith, s, flight.security));
          limit = limit;
          top = lots.0;
          part = lots.1;
        };
        price = price.1;
        counts = subst (λ (x : ℕ). Countable (turnover_at t x) (pieces_of (row r x) n) (value_for (row r x) p n)) (sym s) counts;
        lent = lent;
      }

  -- the floor after the trade holds the definition's day
  module _ {f1 : Floor} (f' : Floor) {v v' : List ℕ} {j : ℕ} {q : Turnover} (done : Executes r f (buy_of e o) (sell_of e o) p n j v f1 v' q)
      (waiting : first_orders f'.count f'.orders ≡ take_off d.waiting i n) (codes : f'.codes ≡ f.codes)
      (phase : f'.phase ≡ f.phase) (turnover : f'.turnover ≡ set t e.security q) (money : f'.money ≡ f1.money)
      (pieces : f'.pieces ≡ f1.pieces) where
    pub day_traded : day_of r f' ≡ traded d (buy_of e o) (sell_of e o) i p n
    unfolding traded settle counted
    day_traded =
        let positions =
        both.1 f'.money f'.pieces (money ∙ ap (λ (x : Floor). x.money) done.floor)
        (pieces ∙ ap (λ (x : Floor). x.pieces) done.floor) in
        let counted : f'.turnover
        ≡ set t (buy_of e o).security
        (counting (pieces_of (row r (buy_of e o).security) n) (value_for (row r (buy_of e o).security) p n)
        (turnover_at t (buy_of e o).security)) =
        turnover ∙ ap (λ (x : ℕ). set t x q) (sym (security_is e.side)) ∙ ap (set t (buy_of e o).security) done.turnover in
        let paid = ap (λ (x : Day). x.money) positions in
        let delivered = ap (λ (x : Day). x.pieces) positions in
        rw (waiting, codes, phase, counted, paid, delivered)
