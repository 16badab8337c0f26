-- Pairing, security by security: what the end of the closing session and the end of collecting (T-02) trade.
use Rattle.std.specs.Prelude.{ℕ, zero, suc, min, List, [], ◌∷◌, ◌++◌, cond, length}
use Rattle.market.specs.declared.Kind.{Kind}
use Rattle.market.specs.declared.Order.{Order}
use Rattle.market.specs.declared.Phase.{Phase}
use Rattle.market.specs.declared.Side.{Side}
use Rattle.market.specs.declared.Side.TheVariants.{Buy, Sell}
use Rattle.market.specs.Tests.{◌<?◌}
use Rattle.market.specs.Day.{Day, order_at, with_waiting}
use Rattle.market.specs.Waiting.{all_leave, take_off}
use Rattle.market.specs.TradeList.{Trade, lots_of}
use Rattle.market.specs.Execution.{executed}
use Rattle.market.specs.Answers.{Result, done}
use Rattle.market.specs.Matching.{Best, best, found, lots_at, none}

-- which orders meet, and at which price
pub record Terms : Type 0 where
  pub limit : Kind
  pub price : ℕ

-- what stands for the other side when the oldest order of a side is looked for
abbrev pub counterparty : Side → ℕ → Kind → Order
counterparty side s k = record { code = 0; participant = 0; side = side; arrival = 0; security = s; lots = 0; kind = k }

-- the first buy, and the first sell, of security s under these terms
abbrev pub first_buy : ℕ → Terms → Day → Best
first_buy s t d = best (counterparty Sell s t.limit) d.waiting

abbrev pub first_sell : ℕ → Terms → Day → Best
first_sell s t d = best (counterparty Buy s t.limit) d.waiting

-- n lots off the orders at places i and j
unfoldable pub take_both : List Order → ℕ → ℕ → ℕ → List Order
take_both w i j n = cond (i <? j) (take_off (take_off w j n) i n) (take_off (take_off w i n) j n)

-- the day after the buy at place i and the sell at place j traded n lots at price p; "These trades don't enter Q or T",
-- "These trades don't count for the closing price" (T-02)
unfoldable pub paired_off : Day → ℕ → ℕ → ℕ → ℕ → Day
paired_off d i j p n =
    with_waiting (executed d (order_at d.waiting i) (order_at d.waiting j) p n).day (take_both d.waiting i j n)

-- day and trades of a pairing
pub record Paired : Type 0 where
  pub day : Day
  pub trades : List Trade

-- the trades of r, then those of the rest
abbrev pub followed : Paired → (Day → Paired) → Paired
followed r rest = let t = rest r.day in record { day = t.day; trades = r.trades ++ t.trades }

-- the pair at places i and j trades
abbrev pub pair_one : Day → ℕ → ℕ → ℕ → ℕ → Paired
pair_one d i j p n = record {
  day = paired_off d i j p n;
  trades = (executed d (order_at d.waiting i) (order_at d.waiting j) p n).trade ∷ [];
}

-- "until one side is used up", or reaches no more
abbrev pub pair_by : (Day → Paired) → Best → Best → Day → ℕ → Paired
pair_by rest none y d p = record { day = d; trades = [] }
pair_by rest (found i a) none d p = record { day = d; trades = [] }
pair_by rest (found i a) (found j b) d p = followed (pair_one d i j p (min (lots_at d i) (lots_at d j))) rest

-- the first buy with the first sell of security s, over and over, at most so many times
unfoldable pub pairs_within : ℕ → ℕ → Terms → Day → Paired
pairs_within zero s t d = record { day = d; trades = [] }
pairs_within (suc rounds) s t d = pair_by (pairs_within rounds s t) (first_buy s t d) (first_sell s t d) d t.price

-- each pair takes an order off, so there are no more pairs than orders
unfoldable pub pairs : ℕ → Terms → Day → Paired
pairs s t d = pairs_within (length d.waiting) s t d

-- "by security, ascending": n securities from s on
unfoldable pub pairs_from : (Day → ℕ → Terms) → ℕ → ℕ → Day → Paired
pairs_from terms zero s d = record { day = d; trades = [] }
pairs_from terms (suc n) s d = followed (pairs s (terms d s) d) (pairs_from terms n (suc s))

-- "the rest come off", and the phase becomes x; "the lots of its trades added up, and trades"
abbrev pub end_result : Phase → Paired → Result
end_result x r = done 0 (lots_of r.trades) 0 (all_leave r.day x) r.trades
