-- A pairing outside continuous trading keeps Good, whatever its terms.
use Prim.Native.Nat.{ℕ, zero, suc, ◌+◌, ◌≤◌, ◌<◌, min}
use native.Mathlib.Omega.{arith}
use mathlib.Core.Path.{◌≡◌, refl, ap, sym, ◌∙◌}
use mathlib.Core.List.{List, []}
use mathlib.Core.Bool.{Bool, true, false, cond}
use lib.ListN.{length, length-append}
use borrow.Author.Tests.{ltb-true, ltb-false}
use Rattle.market.specs.declared.Order.{Order}
use Rattle.market.specs.declared.Phase.{Phase}
use Rattle.market.specs.declared.Phase.TheVariants.{Closed, Closing, Collecting, Open}
use Rattle.market.specs.declared.Side.TheVariants.{Buy, Sell}
use Rattle.market.specs.declared.Turnover.{Turnover}
use Rattle.market.specs.Tests.{◌<?◌}
use Rattle.market.specs.declared.Rules.{Rules}
use Rattle.market.specs.Day.{Day, no_order, order_at}
use Rattle.market.specs.Codes.{codes_of, given}
use Rattle.market.specs.Needs.{limit_of}
use Rattle.market.specs.Positions.{settle}
use Rattle.market.specs.Waiting.{take_off}
use Rattle.market.specs.TradeList.{Trade, trade_of}
use Rattle.market.specs.Matching.{lots_at}
use Rattle.market.specs.Pairing.{Paired, Terms, followed, pair_one, paired_off, pairs, pairs_from, take_both}
use Rattle.market.proofs.Lists.{all_at}
use Rattle.market.proofs.Waiting.{Apart, apart_at, apart_take_off, at_take_off, length_take_off}
use Rattle.market.proofs.Codes.{numbered_apart}
use Rattle.market.proofs.Matching.{uncrossed_both}
use Rattle.market.proofs.Pairs.{Meeting, Stands, stand_apart, pairs_all}
use Rattle.conservation.specs.Book.{Book, Waiting, count_in, feed_trade, feed_trades, take_lots, trade_moved}
use Rattle.conservation.specs.Statement.{all_shown}
use Rattle.conservation.proofs.Listed.{feed_trades_append, take_lots_comm, take_lots_is}
use Rattle.invariant.proofs.Pairing.{Fair, FairTo, pair_buy, pair_needs, pair_one_lem, pair_sell, pair_standing, pair_two}
use Rattle.conservation.proofs.Good.{Good}
use Rattle.conservation.proofs.Trade.{trade_agree}

-- lots off two orders, in the book as in the day
lots_two : (w : List Order) (i j n : ℕ) → i < j → j < length w → Apart w
    → take_lots (order_at w i).participant (order_at w i).code n
    (take_lots (order_at w j).participant (order_at w j).code n (all_shown w))
    ≡ all_shown (take_off (take_off w j n) i n)
lots_two w i j n h hj r =
    let g = at_take_off w i j n h in
    ap (take_lots (order_at w i).participant (order_at w i).code n) (take_lots_is n w j r hj)
    ∙ rw g at (take_lots_is n (take_off w j n) i (apart_take_off w j n r) (length_take_off w i j n h hj))

lots_both : (w : List Order) (i j n : ℕ) → Apart w → i < length w → j < length w → (i ≡ j → ⊥)
    → take_lots (order_at w j).participant (order_at w j).code n
    (take_lots (order_at w i).participant (order_at w i).code n (all_shown w)) ≡ all_shown (take_both w i j n)
unfolding take_both
lots_both w i j n r hi hj ne = go (i <? j) refl
  where
    go : (k : Bool) → (i <? j) ≡ k
        → take_lots (order_at w j).participant (order_at w j).code n
        (take_lots (order_at w i).participant (order_at w i).code n (all_shown w))
        ≡ all_shown (cond k (take_off (take_off w j n) i n) (take_off (take_off w i n) j n))
    go true q =
        take_lots_comm (order_at w j).participant (order_at w j).code (order_at w i).participant
        (order_at w i).code n (all_shown w) (apart_at w j i r hj hi (λ z. ne (sym z)))
        ∙ lots_two w i j n (ltb-true i j q) hj r
    go false q = lots_two w j i n (omega (arith, ltb-false i j q)) hi r

-- trades outside continuous trading are not counted
uncounted : (x : Phase) (r : Rules) (t : Trade) (l : List Turnover) → (x ≡ Open → ⊥) → count_in x r t l ≡ l
uncounted Open r t l h = absurd (h refl)
uncounted Collecting r t l h = refl
uncounted Closing r t l h = refl
uncounted Closed r t l h = refl

-- one pair, which doesn't count: the book's Q and T are u' after it
module _ {U : Type 0} {r : Rules} (b : Book) (d : Day) (g : Good U r b d) (u' : List Turnover) (same : u' ≡ d.turnover)
    (s p i j n : ℕ) (buys : Stands Buy s d.waiting i) (sells : Stands Sell s d.waiting j)
    (price : p ≤ limit_of d.turnover (order_at d.waiting i))
    (ni : n ≤ lots_at d i) (nj : n ≤ lots_at d j) where
  abbrev buy : Order
  buy = order_at d.waiting i

  abbrev sell : Order
  sell = order_at d.waiting j

  pub pair_good : Good U r (trade_moved r b u' (trade_of d.rules buy sell p n)) (paired_off d i j p n)
  unfolding paired_off settle
  pair_good =
      let st = g.standing in
      record {
        standing = pair_standing d st s p i j n buys sells price ni nj;
        agree =
            trade_agree [] (take_both d.waiting i j n) b d buy sell p n u' d.turnover g.agree st.backed
            (pair_buy d st s p i j n buys sells price ni nj) (pair_sell d st s p i j n buys sells price ni nj)
            buys.side sells.side (pair_one_lem d st s p i j n buys sells price ni nj) price ni nj
            (λ y q. omega (arith, pair_needs d st s p i j n buys sells price ni nj y q)) same;
        waiting =
            ap (λ (l : List Waiting).
            take_lots sell.participant sell.code n (take_lots buy.participant buy.code n l)) g.waiting
            ∙ lots_both d.waiting i j n (numbered_apart (given d) (codes_of d) d.waiting st.codes)
            buys.inside sells.inside (stand_apart s d.waiting i j buys sells);
        uncrossed = λ u h. uncrossed_both d.waiting i j n (g.uncrossed u h);
      }

-- what a pairing leaves
pub record PairedOk (U : Type 0) (r : Rules) (b : Book) (d : Day) (x : Paired) : Type 0 where
  pub good : Good U r (feed_trades r b x.trades) x.day
  pub phase : x.day.phase ≡ d.phase
  pub count : length x.trades + length x.day.waiting ≤ length d.waiting

unpaired : {U : Type 0} {r : Rules} (b : Book) (d : Day) → Good U r b d
    → PairedOk U r b d (record { day = d; trades = [] })
unfolding feed_trades
unpaired b d g = record { good = g; phase = refl; count = omega arith }

-- with every book that agrees before it
abbrev Pairing : Type 0 → Rules → ℕ → Terms → Day → Paired → Type 0
Pairing U r s t d x = (b : Book) → Good U r b d → (d.phase ≡ Open → ⊥) → Fair s t d → PairedOk U r b d x

pub pairs_ok : (U : Type 0) (r : Rules) (s : ℕ) (t : Terms) (d : Day) → Pairing U r s t d (pairs s t d)
pairs_ok U r s t d = pairs_all s t (Pairing U r s t) (λ d b g shut fair. unpaired b d g) one d
  where
    one : (d : Day) (i j : ℕ) → Meeting Buy s t.limit d.waiting i → Meeting Sell s t.limit d.waiting j →
        let n : ℕ = min (lots_at d i) (lots_at d j) in
        (rest : Day → Paired) → Pairing U r s t (paired_off d i j t.price n) (rest (paired_off d i j t.price n))
        → Pairing U r s t d (followed (pair_one d i j t.price n) rest)
    one d i j mb ms rest again b g shut fair =
        unfold paired_off settle feed_trade feed_trades in
        (let n = min (lots_at d i) (lots_at d j) in
        let mi = mb.stands in
        let mj = ms.stands in
        let price = all_at (FairTo s t d.turnover) no_order d.waiting i fair mi.inside mi.security
        mb.reach in
        let both = pair_two d g.standing s t.price i j n mi mj price (omega arith) (omega arith) in
        let same = uncounted b.phase r (trade_of d.rules (order_at d.waiting i) (order_at d.waiting j) t.price n)
        b.turnover (λ h. shut (sym g.agree.phase ∙ h)) ∙ g.agree.turnover in
        let good = pair_good b d g _ same s t.price i j n mi mj price (omega arith) (omega arith) in
        let x = again _ good shut (both.all (FairTo s t d.turnover) (λ o k l. k) fair) in
        record { good = x.good; phase = x.phase; count = omega (arith, x.count, both.shorter (omega arith)) })

-- security after security, where the terms are fair in this phase
module _ {U : Type 0} {r : Rules} (terms : Day → ℕ → Terms) (x : Phase) (other : x ≡ Open → ⊥)
    (fair : (b : Book) (d : Day) (s : ℕ) → Good U r b d → d.phase ≡ x → Fair s (terms d s) d) where
  pub pairs_from_ok : (n s : ℕ) (b : Book) (d : Day) → Good U r b d → d.phase ≡ x
      → PairedOk U r b d (pairs_from terms n s d)
  unfolding pairs_from feed_trades
  pairs_from_ok zero s b d g in-x = unpaired b d g
  pairs_from_ok (suc n) s b d g in-x =
      let y = pairs_ok U r s (terms d s) d b g (λ z. other (sym in-x ∙ z)) (fair b d s g in-x) in
      let p = pairs s (terms d s) d in
      let t = pairs_from_ok n (suc s) (feed_trades r b p.trades) p.day y.good (y.phase ∙ in-x) in
      let rest = pairs_from terms n (suc s) p.day in
      record {
        good = rw (feed_trades_append r b p.trades rest.trades) t.good;
        phase = t.phase ∙ y.phase;
        count = omega (arith, y.count, t.count, length-append p.trades rest.trades);
      }
