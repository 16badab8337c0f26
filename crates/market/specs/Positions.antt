-- How positions move.
use Rattle.std.specs.Prelude.{ℕ, ◌+◌, ◌-◌, List, set}
use Rattle.market.specs.declared.Asset.{Asset}
use Rattle.market.specs.declared.Order.{Order}
use Rattle.market.specs.Day.{Position}
use Rattle.market.specs.declared.Turnover.{Turnover}
use Rattle.market.specs.Limits.{market}
use Rattle.market.specs.Tests.{sum_below}
use Rattle.market.specs.declared.Rules.{Rules}
use Rattle.market.specs.Day.{Day, account_in, blocked_at, currency_of, free_at, row, cell, position, positions}
use Rattle.market.specs.Day.{turnover_at, with_lots, with_money, with_pieces, with_positions}
use Rattle.market.specs.Needs.{asset_of, both_fees, need, pieces_of, cell_for, proceeds, sum_for, value_for, with_fee}

-- the position at cell j becomes f of it
unfoldable pub change : List ℕ → ℕ → (Position → Position) → List ℕ
change l j f = set (set l (free_at j) (f (position l j)).free) (blocked_at j) (f (position l j)).blocked

-- "Increase and decrease move free money or free pieces of one participant"
abbrev pub receive : ℕ → Position → Position
receive a p = record { free = p.free + a; blocked = p.blocked }

abbrev pub draw : ℕ → Position → Position
draw a p = record { free = p.free - a; blocked = p.blocked }

-- "Entering an order blocks, from free"
abbrev pub block : ℕ → Position → Position
block a p = record { free = p.free - a; blocked = p.blocked + a }

-- and back to free
abbrev pub release : ℕ → Position → Position
release a p = record { free = p.free + a; blocked = p.blocked - a }

-- blocked falls by fall, of which cost is paid; "the difference returns to the buyer's free money"
abbrev pub pay : ℕ → ℕ → Position → Position
pay fall cost p = record { free = p.free + (fall - cost); blocked = p.blocked - fall }

-- f of an order's need, on the position where it blocks
abbrev pub on_need : (ℕ → Position → Position) → Day → Order → Day
on_need f d o =
    with_positions (asset_of o.side) d
    (change (positions (asset_of o.side) d) (cell_for d.rules o) (f (need d.rules d.turnover o)))

-- what an order needs is blocked
unfoldable pub block_for : Day → Order → Day
block_for d o = on_need block d o

-- what an order needs is freed
unfoldable pub release_for : Day → Order → Day
release_for d o = on_need release d o

-- what is free where an order blocks
abbrev pub free_for : Day → Order → ℕ
free_for d o = (position (positions (asset_of o.side) d) (cell_for d.rules o)).free

-- by how much an order's need falls when n lots come off it
abbrev pub fall : Rules → List Turnover → Order → ℕ → ℕ
fall r t o n = need r t o - need r t (with_lots o (o.lots - n))

-- "A buyer's blocked money falls in a trade by the fall in what his order needs, and what the trade doesn't cost is freed"
-- (T-05); "the sum .. goes to the seller's free money". Of the sum each side pays the fee "into the market's own account"
-- (T-03)
abbrev pub money_settled : Day → Order → Order → ℕ → ℕ → List ℕ
money_settled d b s n sum =
    let currency = currency_of d.rules b.security in
    let rate = d.rules.rate in
    change (change (change d.money (cell_for d.rules b) (pay (fall d.rules d.turnover b n) (with_fee rate sum)))
    (cell s.participant currency) (receive (proceeds rate sum)))
    (cell market currency) (receive (both_fees rate sum))

-- "The seller's blocked pieces become the buyer's free pieces"
abbrev pub pieces_settled : Day → Order → Order → ℕ → ℕ → List ℕ
pieces_settled d b s n pieces =
    change (change d.pieces (cell_for d.rules s) (pay (fall d.rules d.turnover s n) pieces))
    (cell b.participant b.security) (receive pieces)

-- "A trade of n lots at price p" between a buy b and a sell s
unfoldable pub settle : Day → Order → Order → ℕ → ℕ → Day
settle d b s p n =
    with_pieces (with_money d (money_settled d b s n (sum_for (row d.rules b.security) p n)))
    (pieces_settled d b s n (pieces_of (row d.rules b.security) n))

-- Q with q pieces more, T with this value
abbrev pub counting : ℕ → ℕ → Turnover → Turnover
counting q value x = record { pieces = x.pieces + q; value = x.value + value }

-- "Each trade adds to Q and T": n lots of security s at price p; T, whatever the form of price, "adds price × pieces" (T-05)
unfoldable pub counted : Rules → List Turnover → ℕ → ℕ → ℕ → List Turnover
counted r t s p n = set t s (counting (pieces_of (row r s) n) (value_for (row r s) p n) (turnover_at t s))

-- free plus blocked
abbrev pub total : Position → ℕ
total p = p.free + p.blocked

-- a currency's or a security's total "over all participants"; a currency's "counts the market's account in" (T-03)
abbrev pub total_at : Asset → ℕ → List ℕ → ℕ → ℕ
total_at x participants l column = account_in x l column + sum_below participants (λ p. total (position l (cell p column)))
