-- What one trade asks of a floor, and what it does to it. The parts of a trade's security are its listing l and its Q and T, t.
use Rattle.std.specs.Prelude.{ℕ, ◌+◌, ◌*◌, ◌-◌, ◌≤◌, ◌<◌, ◌≡◌, List, length}
use Rattle.market.specs.declared.Floor.{Floor}
use Rattle.market.specs.declared.Listing.{Listing}
use Rattle.market.specs.declared.Order.{Order}
use Rattle.market.specs.declared.Rules.{Rules}
use Rattle.market.specs.declared.Turnover.{Turnover}
use Rattle.market.specs.Limits.{columns, market, max_codes, max_lots, max_pieces, max_price, max_rate, max_sum, max_value}
use Rattle.market.specs.Limits.{money_limit, numbers_per_trade}
use Rattle.market.specs.Day.{account, cell, row, turnover_at, with_lots}
use Rattle.market.specs.Needs.{blocks, both_fees, closing_price, pieces_of, price_or, proceeds, sum_for, value_for, with_fee}
use Rattle.market.specs.Positions.{change, counting, fall, pay, receive}
use Rattle.market.specs.Parts.{ListingOk, listing}
use Rattle.market.specs.TradeList.{trade_of}
use Rattle.positions.specs.Payable.{Payable}
use Rattle.matching.specs.Written.{trade_written}

-- what an order needs
abbrev pub need_with : Listing → Turnover → Order → ℕ
need_with l t o = blocks o.side l.row l.rate (price_or (closing_price t) o.kind) o.lots

-- by how much that falls when n lots come off it
abbrev pub fall_with : Listing → Turnover → Order → ℕ → ℕ
fall_with l t o n = need_with l t o - need_with l t (with_lots o (o.lots - n))

-- the need of an order can be reckoned, and so can its fall by n lots
pub record Reckoned (l : Listing) (t : Turnover) (o : Order) (n : ℕ) : Type 0 where
  pub listing : ListingOk l
  pub limit : price_or (closing_price t) o.kind ≤ max_price
  pub top : o.lots ≤ max_lots
  pub part : n ≤ o.lots

-- Q and T are within what a day can trade, and so are these pieces and this value within what a trade can
pub record Countable (t : Turnover) (pieces value : ℕ) : Type 0 where
  pub room_q : t.pieces ≤ max_pieces * max_codes
  pub room_t : t.value ≤ max_price * (max_pieces * max_codes)
  pub few : pieces ≤ max_pieces
  pub low : value ≤ max_value

-- the money after a trade whose sum is this, where the buyer's need falls by fall
abbrev pub money_after : Listing → Order → Order → ℕ → ℕ → List ℕ → List ℕ
money_after l b s fall sum m =
    change (change (change m (cell b.participant l.row.currency) (pay fall (with_fee l.rate sum)))
    (cell s.participant l.row.currency) (receive (proceeds l.rate sum)))
    (cell market l.row.currency) (receive (both_fees l.rate sum))

-- the pieces after it, of which this many are sold
abbrev pub pieces_after : Order → Order → ℕ → List ℕ → List ℕ
pieces_after b s sold m =
    change (change m (cell s.participant b.security) (pay sold sold)) (cell b.participant b.security)
    (receive sold)

-- a buy b can pay a sell s the sum, both can pay their fees, and the sell can deliver what is sold
pub record Settles (l : Listing) (b s : Order) (fall sum sold : ℕ) (m k : List ℕ) : Type 0 where
  pub buyer : b.participant < columns
  pub seller : s.participant < columns
  pub security : b.security < columns
  pub currency : l.row.currency < columns
  pub rate : l.rate ≤ max_rate
  pub small : sum ≤ max_sum
  pub money : Payable m (cell b.participant l.row.currency) fall (with_fee l.rate sum)
      (cell s.participant l.row.currency) (proceeds l.rate sum)
  pub account : account m l.row.currency ≤ money_limit
  pub pieces : Payable k (cell s.participant b.security) sold sold (cell b.participant b.security) sold

-- the floor after it
abbrev pub settled : Listing → Order → Order → (fall sum sold : ℕ) → Floor → Floor
settled l b s fall sum sold f = record {
  phase = f.phase;
  orders = f.orders;
  count = f.count;
  codes = f.codes;
  turnover = f.turnover;
  money = money_after l b s fall sum f.money;
  pieces = pieces_after b s sold f.pieces;
}

-- under rules r a buy b and a sell s can trade n lots at price p, as trade number i of the lent list v
pub record Executable (r : Rules) (f : Floor) (b s : Order) (p n i : ℕ) (v : List ℕ) : Type 0 where
  pub settles : Settles (listing r b.security) b s (fall r f.turnover b n) (sum_for (row r b.security) p n)
      (pieces_of (row r b.security) n) f.money f.pieces
  pub reckoned : Reckoned (listing r b.security) (turnover_at f.turnover b.security) b n
  pub price : p ≤ max_price
  pub counts : Countable (turnover_at f.turnover b.security) (pieces_of (row r b.security) n) (value_for (row r b.security) p n)
  pub lent : numbers_per_trade * i + numbers_per_trade ≤ length v

-- and have traded them: floor, trade list, and Q and T with the trade
pub record Executes (r : Rules) (f : Floor) (b s : Order) (p n i : ℕ) (v : List ℕ) (f' : Floor) (v' : List ℕ) (q : Turnover)
    : Type 0 where
  pub floor : f' ≡ settled (listing r b.security) b s (fall r f.turnover b n) (sum_for (row r b.security) p n)
      (pieces_of (row r b.security) n) f
  pub list : v' ≡ trade_written i (trade_of r b s p n) v
  pub turnover : q ≡ counting (pieces_of (row r b.security) n) (value_for (row r b.security) p n)
      (turnover_at f.turnover b.security)
