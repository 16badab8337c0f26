-- One trade keeps blocked amounts equal to needs.
use Prim.Native.Nat.{ℕ, ◌+◌, ◌≤◌, ◌<◌}
use native.Mathlib.Omega.{arith}
use mathlib.Core.Path.{◌≡◌, refl, ap, ◌∙◌}
use mathlib.Core.List.{List, ◌++◌}
use mathlib.Core.Bool.{Bool, true, false, cond}
use lib.Dec.{eqb}
use Rattle.market.specs.declared.Order.{Order}
use Rattle.market.specs.declared.Side.TheVariants.{Buy, Sell}
use Rattle.market.specs.declared.Turnover.{Turnover}
use Rattle.market.specs.Tests.{sum_of}
use Rattle.market.specs.declared.Asset.{Asset}
use Rattle.market.specs.declared.Asset.TheVariants.{Money, Pieces}
use Rattle.market.specs.Day.{Day, columns_of, currency_of, row, cell, position, positions}
use Rattle.market.specs.Day.{total_limit, with_turnover, with_waiting}
use Rattle.market.specs.Needs.{both_fees, limit_of, need_at, of_asset, only, pieces_of, cell_for, proceeds, sum_for, with_fee}
use Rattle.market.specs.Positions.{change, fall, pay, receive, settle, total_at}
use Rattle.market.proofs.Amounts.{only_same}
use Rattle.market.proofs.Needs.{fall_pays, fall_sells, fee_shared}
use Rattle.market.proofs.Known.{OrderOk}
use Rattle.invariant.specs.Standing.{Backed, Held, needs_of}
use Rattle.invariant.proofs.Held.{held_fees, held_total, held_transfer}

-- by how much what an order needs of an asset at place j falls when n lots come off it
abbrev pub fall_at : Asset → Day → Order → ℕ → ℕ → ℕ
fall_at y d o n j = of_asset y o.side (only (cell_for d.rules o) j (fall d.rules d.turnover o n))

-- a trade of the orders buy and sell; pending and waiting are x and the day's list before, x' and w' after; t' is the
-- day's turnover after it
module _ (x x' w' : List Order) (d : Day) (buy sell : Order) (p n : ℕ) (t' : List Turnover)
    (backed : Backed x d) (buy_ok : OrderOk d.rules buy) (sell_ok : OrderOk d.rules sell)
    (buys : buy.side ≡ Buy) (sells : sell.side ≡ Sell) (one : sell.security ≡ buy.security)
    (price : p ≤ limit_of d.turnover buy) (buyLots : n ≤ buy.lots) (sellLots : n ≤ sell.lots)
    (needs : (y : Asset) (j : ℕ)
    → needs_of y d (x' ++ w') j + (fall_at y d buy n j + fall_at y d sell n j) ≡ needs_of y d (x ++ d.waiting) j)
    (same : (y : Asset) (j : ℕ) → sum_of (need_at y d.rules t' j) (x' ++ w') ≡ needs_of y d (x' ++ w') j) where
  abbrev after : Day
  after = with_waiting (with_turnover (settle d buy sell p n) t') w'

  -- what falls is blocked
  has_blocked : (y : Asset) (payer column falls : ℕ) → payer < d.rules.participants → column < columns_of y d.rules
      → ((j : ℕ)
      → needs_of y d (x' ++ w') j + only (cell payer column) j falls ≡ needs_of y d (x ++ d.waiting) j)
      → falls ≤ (position (positions y d) (cell payer column)).blocked
  has_blocked y payer column falls hp hc left =
      let at = cell payer column in
      omega (arith, left at, only_same at falls, (backed.held y).blocked payer column hp hc)

  -- the payer's blocked part falls by falls, of which cost is paid, and the other gets a gain of it, in one column
  paid : (y : Asset) (payer other column falls cost gain : ℕ) → payer < d.rules.participants
      → other < d.rules.participants → column < columns_of y d.rules → cost ≤ falls → gain ≤ cost
      → ((j : ℕ)
      → needs_of y d (x' ++ w') j + only (cell payer column) j falls ≡ needs_of y d (x ++ d.waiting) j)
      → Held y d.rules
      (change (change (positions y d) (cell payer column) (pay falls cost)) (cell other column) (receive gain))
      (λ j. sum_of (need_at y d.rules t' j) (x' ++ w'))
  paid y payer other column falls cost gain hp ho hc pays less left =
      let has = has_blocked y payer column falls hp hc left in
      held_transfer (backed.held y) payer other column (pay falls cost) falls cost gain _ hp ho hc less (omega arith)
      (omega arith) (λ j. omega (arith, same y j, left j))

  -- what the other doesn't get of the cost has room in the market's account
  room : (payer other column falls cost gain fees : ℕ) → payer < d.rules.participants
      → other < d.rules.participants → column < columns_of Money d.rules → cost ≤ falls → gain + fees ≡ cost
      → falls ≤ (position d.money (cell payer column)).blocked → (c : ℕ) → c < columns_of Money d.rules
      → total_at Money d.rules.participants
      (change (change d.money (cell payer column) (pay falls cost)) (cell other column) (receive gain)) c
      + cond (eqb column c) fees 0 ≤ total_limit Money
  room payer other column falls cost gain fees hp ho hc pays shared has c k =
      let totals = held_total (backed.held Money) payer other column (pay falls cost) cost gain c hp ho hc k (omega arith) in
      omega (arith, totals, within (eqb column c), (backed.held Money).topped c k)
    where
      within : (z : Bool) → cond z gain 0 + cond z fees 0 ≡ cond z cost 0
      within true = shared
      within false = refl

  trade_held : (y : Asset)
      → Held y d.rules (positions y after) (needs_of y after (x' ++ w'))
  unfolding settle
  trade_held Money =
      let column = currency_of d.rules buy.security in
      let falls = fall d.rules d.turnover buy n in
      let there : cell_for d.rules buy ≡ cell buy.participant column = rw buys in
      let known = backed.rules_ok.currency buy.security buy_ok.security in
      let sum = sum_for (row d.rules buy.security) p n in
      let rate = d.rules.rate in
      let pays = fall_pays d.rules d.turnover buy p n buys price buyLots in
      let shared = fee_shared rate sum backed.rules_ok.rate in
      let left : (j : ℕ) → needs_of Money d (x' ++ w') j + only (cell buy.participant column) j falls
      ≡ needs_of Money d (x ++ d.waiting) j =
      λ j.
      let fb : fall_at Money d buy n j ≡ only (cell buy.participant column) j falls = rw buys in
      let fs : fall_at Money d sell n j ≡ 0 = rw sells in
      omega (arith, needs Money j) in
      rw there
      (held_fees
      (paid Money buy.participant sell.participant column falls (with_fee rate sum) (proceeds rate sum)
      buy_ok.participant sell_ok.participant known pays (omega (arith, shared)) left)
      column (both_fees rate sum) known
      (room buy.participant sell.participant column falls (with_fee rate sum) (proceeds rate sum) (both_fees rate sum)
      buy_ok.participant sell_ok.participant known pays shared (has_blocked Money buy.participant column falls
      buy_ok.participant known left)))
  trade_held Pieces =
      let column = buy.security in
      let falls = fall d.rules d.turnover sell n in
      let there : cell_for d.rules sell ≡ cell sell.participant column = rw (sells, one) in
      let sold : falls ≡ pieces_of (row d.rules column) n =
      fall_sells d.rules d.turnover sell n sells sellLots
      ∙ ap (λ (k : ℕ). pieces_of (row d.rules k) n) one in
      rw there
      (paid Pieces sell.participant buy.participant column falls (pieces_of (row d.rules column) n)
      (pieces_of (row d.rules column) n) sell_ok.participant buy_ok.participant buy_ok.security (omega arith)
      (omega arith)
      (λ j.
      let fb : fall_at Pieces d buy n j ≡ 0 = rw buys in
      let fs : fall_at Pieces d sell n j ≡ only (cell sell.participant column) j falls = rw (sells, one) in
      omega (arith, needs Pieces j)))

  pub trade_backed : Backed x' after
  unfolding settle
  trade_backed = record { rules_ok = backed.rules_ok; held = trade_held }
