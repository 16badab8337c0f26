-- One trade keeps the agreement of the book and the day.
use Prim.Native.Nat.{ℕ, ◌+◌, ◌-◌, ◌≤◌, ◌<◌}
use native.Mathlib.Omega.{arith}
use mathlib.Core.Path.{◌≡◌, refl, ap, ◌∙◌}
use mathlib.Core.List.{List, ◌++◌}
use Rattle.market.specs.declared.Order.{Order}
use Rattle.market.specs.declared.Side.TheVariants.{Buy, Sell}
use Rattle.market.specs.declared.Turnover.{Turnover}
use Rattle.market.specs.declared.Rules.{Rules}
use Rattle.market.specs.declared.Asset.{Asset}
use Rattle.market.specs.declared.Asset.TheVariants.{Money, Pieces}
use Rattle.market.specs.Day.{Day, Position, columns_of, currency_of, row, cell, position, positions}
use Rattle.market.specs.Day.{with_turnover, with_waiting}
use Rattle.market.specs.Needs.{both_fees, fee, limit_of, only, pieces_of, cell_for, proceeds, sum_for, with_fee}
use Rattle.market.specs.Positions.{fall, pay, settle, total}
use Rattle.market.specs.TradeList.{trade_of}
use Rattle.market.proofs.Amounts.{only_same}
use Rattle.market.proofs.Needs.{fall_pays, fall_sells, fee_within}
use Rattle.market.proofs.Known.{OrderOk}
use Rattle.conservation.specs.Book.{Book, balances, trade_moved}
use Rattle.invariant.specs.Standing.{Backed, needs_of}
use Rattle.invariant.proofs.Trade.{fall_at}
use Rattle.conservation.proofs.Balanced.{Balanced, balanced_fees, balanced_transfer}
use Rattle.conservation.proofs.Good.{Agree}

-- a trade of the orders buy and sell among those that block, of which x do not wait; u' is the book's turnover list after
-- it, t' the day's
module _ {r : Rules} (x w' : List Order) (b : Book) (d : Day) (buy sell : Order) (p n : ℕ) (u' t' : List Turnover)
    (agree : Agree r b d) (backed : Backed x d) (buy_ok : OrderOk d.rules buy) (sell_ok : OrderOk d.rules sell)
    (buys : buy.side ≡ Buy) (sells : sell.side ≡ Sell) (one : sell.security ≡ buy.security)
    (price : p ≤ limit_of d.turnover buy) (buyLots : n ≤ buy.lots) (sellLots : n ≤ sell.lots)
    (needs : (y : Asset) (j : ℕ) → fall_at y d buy n j + fall_at y d sell n j ≤ needs_of y d (x ++ d.waiting) j)
    (counts : u' ≡ t') where
  abbrev after : Day
  after = with_waiting (with_turnover (settle d buy sell p n) t') w'

  -- the payer's blocked part falls by falls, of which cost is paid
  paid : (y : Asset) (payer column falls cost : ℕ) → payer < d.rules.participants → column < columns_of y d.rules
      → cost ≤ falls
      → only (cell payer column) (cell payer column) falls ≤ needs_of y d (x ++ d.waiting) (cell payer column) →
      let at : Position = position (positions y d) (cell payer column) in
      total (pay falls cost at) + cost ≡ total at
  paid y payer column falls cost hp hc pays left =
      let at = cell payer column in
      omega (arith, left, only_same at falls, (backed.held y).blocked payer column hp hc)

  trade_balanced : (y : Asset)
      → Balanced d.rules (columns_of y d.rules) (positions y after)
      (balances y (trade_moved r b u' (trade_of d.rules buy sell p n)))
  unfolding settle with_fee proceeds both_fees
  trade_balanced Money =
      let column = currency_of d.rules buy.security in
      let falls = fall d.rules d.turnover buy n in
      let there : cell_for d.rules buy ≡ cell buy.participant column = rw buys in
      let at = cell buy.participant column in
      let known = backed.rules_ok.currency buy.security buy_ok.security in
      let sum = sum_for (row d.rules buy.security) p n in
      let rate = d.rules.rate in
      let fb : fall_at Money d buy n at ≡ only at at falls = rw buys in
      let pays = paid Money buy.participant column falls (sum + fee rate sum) buy_ok.participant known
      (fall_pays d.rules d.turnover buy p n buys price buyLots) (omega (arith, needs Money at)) in
      rw (agree.rules, there)
      (balanced_fees (backed.held Money) (agree.balanced Money) buy.participant sell.participant column
      (pay falls (sum + fee rate sum)) (sum + fee rate sum) (sum - fee rate sum) buy_ok.participant sell_ok.participant known
      pays sum (fee rate sum) refl (omega (arith, fee_within rate sum backed.rules_ok.rate)))
  trade_balanced Pieces =
      let column = buy.security in
      let falls = fall d.rules d.turnover sell n in
      let there : cell_for d.rules sell ≡ cell sell.participant column = rw (sells, one) in
      let at = cell sell.participant column in
      let sold : falls ≡ pieces_of (row d.rules column) n =
      fall_sells d.rules d.turnover sell n sells sellLots
      ∙ ap (λ (k : ℕ). pieces_of (row d.rules k) n) one in
      let pieces = pieces_of (row d.rules column) n in
      let fs : fall_at Pieces d sell n at ≡ only at at falls = rw (sells, one) in
      let pays = paid Pieces sell.participant column falls pieces sell_ok.participant buy_ok.security (omega arith)
      (omega (arith, needs Pieces at)) in
      rw (agree.rules, there)
      (balanced_transfer (backed.held Pieces) (agree.balanced Pieces) sell.participant buy.participant column
      (pay falls pieces) pieces pieces sell_ok.participant buy_ok.participant buy_ok.security pays refl)

  pub trade_agree : Agree r (trade_moved r b u' (trade_of d.rules buy sell p n)) after
  unfolding settle
  trade_agree = record {
    rules = agree.rules;
    balanced = trade_balanced;
    turnover = counts;
    phase = agree.phase;
  }
