-- What the laws of the auction (T-02) say, in the request's words.
use Rattle.std.specs.Prelude.{ℕ, ◌+◌, ◌≤◌, ◌<◌, ◌≡◌, List, true, cond, length}
use Rattle.market.specs.declared.Kind.TheVariants as kind
use Rattle.market.specs.declared.Order.{Order}
use Rattle.market.specs.declared.Side.{Side}
use Rattle.market.specs.declared.Side.TheVariants.{Buy, Sell}
use Rattle.market.specs.Tests.{◌=?◌, sum_of}
use Rattle.market.specs.Day.{Day, order_at}
use Rattle.market.specs.TradeList.{Trade, lots_of}
use Rattle.market.specs.Calls.{end_collecting}
use Rattle.market.specs.Matching.{price_of}
use Rattle.market.specs.Pairing.{Terms, pairs}
use Rattle.market.specs.Auction.{auction_price, gap, volume}
use Rattle.market.specs.Step.{effect}
use Rattle.market.proofs.Lists.{All}
use Rattle.market.specs.Needs.{is_kept}

-- "most lots trade. Ties go to the smaller gap between lots wanted and lots offered, then to the lower price": p does
-- not go before q
pub record Behind (w : List Order) (s p q : ℕ) : Type 0 where
  pub lots : volume w s p ≤ volume w s q
  pub gaps : volume w s p ≡ volume w s q → gap w s q ≤ gap w s p
  pub price : volume w s p ≡ volume w s q → gap w s p ≡ gap w s q → q ≤ p

-- "the written price": p is written on an order of security s, to buy or to sell
pub record WrittenOn (w : List Order) (s p : ℕ) : Type 0 where
  pub place : ℕ
  pub inside : place < length w
  pub security : s ≡ (order_at w place).security
  pub price : p ≡ price_of (order_at w place)

-- a kept order of security s and this side stands at place i
pub record KeptAt (x : Side) (w : List Order) (s i : ℕ) : Type 0 where
  pub inside : i < length w
  pub security : s ≡ (order_at w i).security
  pub side : (order_at w i).side ≡ x
  pub kept : is_kept (order_at w i).kind ≡ true

-- "With no buy reaching a sell nothing trades": a kept buy of security s reaches a kept sell of it
pub record Crossing (w : List Order) (s : ℕ) : Type 0 where
  pub buy : ℕ
  pub sell : ℕ
  pub bought : KeptAt Buy w s buy
  pub sold : KeptAt Sell w s sell
  pub reach : price_of (order_at w sell) ≤ price_of (order_at w buy)

-- an order has lots, and a price where it is kept
pub record Priced (o : Order) : Type 0 where
  pub lots : 0 < o.lots
  pub price : is_kept o.kind ≡ true → 0 < price_of o

-- the trades of the call that ends collecting
abbrev pub auction_trades : Day → List Trade
auction_trades d = (effect d end_collecting).trades

-- the lots of the trades in security s
unfoldable pub lots_in : ℕ → List Trade → ℕ
lots_in s ts = sum_of (λ t. cond (s =? t.security) t.lots 0) ts

-- "All trades are at that price", were it p
abbrev pub terms_at : ℕ → Terms
terms_at p = record { limit = kind.Kept p; price = p }

-- "No other price from 1 to 1,000,000 may trade more lots": the lots that trade in security s where all trades are at p
abbrev pub lots_traded_at : Day → ℕ → ℕ → ℕ
lots_traded_at d s p = lots_of (pairs s (terms_at p) d).trades

-- the auction of n securities from s on, where the orders w waited before it
pub record Auctioned (w : List Order) (n s : ℕ) (ts : List Trade) : Type 0 where
  -- "for each security, the written price at which most lots trade": all that can at this price do
  pub lots : (u : ℕ) → s ≤ u → u < s + n → lots_in u ts ≡ volume w u (auction_price w u)
  -- none in the securities before
  pub before : (u : ℕ) → u < s → lots_in u ts ≡ 0
  -- "All trades are at that price", of those in its security
  pub prices : All (λ t. t.price ≡ auction_price w t.security) ts
