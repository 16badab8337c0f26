-- Prices in percent of nominal at their edges (T-05): computed on the definition, as one joint theorem.
use Rattle.std.specs.Prelude.{ℕ, ◌≡◌, refl, [], ◌∷◌, replicate, take}
use Rattle.market.specs.declared.Rules.{Rules}
use Rattle.market.specs.declared.Security.{Security}
use Rattle.market.specs.declared.Side.TheVariants.{Buy, Sell}
use Rattle.market.specs.declared.TimeInForce.TheVariants.{ImmediateOrCancel, Kept}
use Rattle.market.specs.declared.Asset.TheVariants.{Money, Pieces}
use Rattle.market.specs.Day.{Day, account, no_security, turnover_at}
use Rattle.market.specs.Needs.{closing_price, money_for, nearest, pieces_of, sum_for, value_for}
use Rattle.market.specs.Calls.{Call, cancel, closing_order, end_collecting, end_session, increase, order, start_closing}
use Rattle.market.specs.Calls.{start_collecting}
use Rattle.market.specs.Opening.{opening}
use Rattle.market.specs.Edge.{after, buy, gives, list_after, refusal, registered, sell}
use Rattle.market.specs.TariffEdge.{money_of, opens}

-- a security of currency 0 with this lot size, step and nominal
abbrev pub bond : ℕ → ℕ → ℕ → Security
bond lot step nominal = record { currency = 0; lot = lot; step = step; nominal = nominal }

-- two participants and one currency; of these two securities the first n are listed
abbrev pub listed : ℕ → Security → Security → ℕ → Rules
listed n first second rate = record {
  participants = 2;
  currencies = 1;
  securities = n;
  table = first ∷ second ∷ replicate 14 no_security;
  rate = rate;
}

-- one security of lot 1 and step 1 with this nominal
abbrev pub single : ℕ → Rules
single nominal = listed 1 (bond 1 1 nominal) no_security 0

-- participant 0 has this free money, participant 1 has 200 pieces of each listed security
unfoldable pub funds : Rules → ℕ → Day
funds r amount =
    after (opening r).day
    (increase Money 0 0 amount ∷ increase Pieces 1 0 200 ∷ increase Pieces 1 1 200 ∷ [])

-- nominal 100,000 at the highest rate: 10 pieces at 9,950 are bought, of 20 that were bid for at 9,960
unfoldable pub bought : Day
bought =
    after (funds (listed 1 (bond 10 1 100000) no_security 1000) 3000000) (sell 1 9950 1 Kept ∷ buy 0 9960 2 Kept ∷ [])

-- nominal 10,001: two pieces at 5,000 come to 10,001, one to 5,000; one is offered
unfoldable pub odd : Day
odd = after (funds (single 10001) 10001) (sell 1 5000 1 Kept ∷ [])

-- nominal 100,000: one piece is traded at 9,950 and one at 9,951
unfoldable pub two_prices : Day
two_prices =
    after (funds (single 100000) 1000000)
    (sell 1 9950 1 Kept ∷ buy 0 9950 1 Kept ∷ sell 1 9951 1 Kept ∷ buy 0 9951 1 Kept ∷ [])

-- a closing buy and a closing sell of one piece
unfoldable pub closing_pair : Day
closing_pair = after two_prices (start_closing ∷ closing_order 0 Buy 0 1 ∷ closing_order 1 Sell 0 1 ∷ [])

-- collected: 2 pieces bid for at 10,100, 2 offered at 9,900
unfoldable pub collected : Day
collected = after (funds (single 12345) 100000) (start_collecting ∷ buy 0 10100 2 Kept ∷ sell 1 9900 2 Kept ∷ [])

-- a bid for one lot of security s
abbrev pub bid : ℕ → ℕ → Call
bid s price = order 0 (record { side = Buy; security = s; price = price; lots = 1 }) Kept

-- the cases, a field each
pub record PercentEdge : Type 0 where
  -- "A security may have a nominal of 10,000 to 500,000 minor units, or 0 for none"; "any other nominal with 23"
  pub none : opens (single 0) ≡ registered 0 0 0 0
  pub lowest : opens (single 10000) ≡ registered 0 0 0 0
  pub highest : opens (single 500000) ≡ registered 0 0 0 0
  pub too_low : opens (single 9999) ≡ refusal 23 0
  pub too_high : opens (single 500001) ≡ refusal 23 0
  -- "after 18 and before 22"; a security past the count is not read
  pub wrong_line : opens (listed 2 (bond 1 1 1) (bond 0 1 0) 1001) ≡ refusal 18 2
  pub before_rate : opens (listed 2 (bond 1 1 0) (bond 1 1 1) 1001) ≡ refusal 23 0
  pub past_count : opens (listed 1 (bond 1 1 0) (bond 1 1 1) 0) ≡ registered 0 0 0 0
  -- "with one, its prices are hundredths of a percent, 1 to 20,000", and on the step, which may leave none
  pub top_price : gives (funds (single 10000) 20000) (buy 0 20000 1 Kept) ≡ registered 1 0 1 0
  pub over_top : gives (funds (single 10000) 30000) (buy 0 20001 1 Kept) ≡ refusal 8 0
  pub off_step : gives (funds (listed 1 (bond 1 3 10000) no_security 0) 30000) (buy 0 20000 1 Kept) ≡ refusal 8 0
  pub step_over_top : gives (funds (listed 1 (bond 1 20001 10000) no_security 0) 30000) (buy 0 20001 1 Kept) ≡ refusal 8 0
  -- both forms in one day
  pub in_percent : gives (funds (listed 2 (bond 1 1 100000) (bond 1 1 0) 0) 20001) (bid 0 20001) ≡ refusal 8 0
  pub in_units : gives (funds (listed 2 (bond 1 1 100000) (bond 1 1 0) 0) 20001) (bid 1 20001) ≡ registered 1 0 1 0
  -- "price × pieces × nominal / 10,000, rounded down": nominal 100,000, price 9,950, 10 pieces
  pub sum : sum_for (bond 10 1 100000) 9950 1 ≡ 995000
  pub enough : gives (funds (listed 1 (bond 10 1 100000) no_security 0) 995000) (buy 0 9950 1 Kept) ≡ registered 1 0 1 0
  pub one_short : gives (funds (listed 1 (bond 10 1 100000) no_security 0) 994999) (buy 0 9950 1 Kept) ≡ refusal 14 0
  pub largest : sum_for (bond 1000 1 500000) 20000 10000 ≡ 10000000000000
  -- "Needs, trades and fees all follow this sum": of 3,000,000 the buyer pays 995,000 and 9,950; 996,000 and 9,960 stay blocked
  pub trade_sum :
      take 8
      (list_after (after (funds (listed 1 (bond 10 1 100000) no_security 1000) 3000000) (sell 1 9950 1 Kept ∷ []))
      (buy 0 9960 2 Kept))
      ≡ 1 ∷ 1 ∷ 0 ∷ 1 ∷ 0 ∷ 9950 ∷ 1 ∷ 995000 ∷ []
  pub buyer : money_of bought 0 ≡ record { free = 989090; blocked = 1005960 }
  pub seller : money_of bought 1 ≡ record { free = 985050; blocked = 0 }
  pub market : account bought.money 0 ≡ 19900
  pub cancelled : money_of (after bought (cancel 0 1 ∷ [])) 0 ≡ record { free = 1995050; blocked = 0 }
  -- "T .. adds price × pieces"
  pub turnover : turnover_at bought.turnover 0 ≡ record { pieces = 10; value = 99500 }
  -- "A buyer's blocked money falls in a trade by the fall in what his order needs, and what the trade doesn't cost is freed":
  -- 10,001 falls to 5,000, and 5,000 are paid
  pub odd_unit : money_of (after odd (buy 0 5000 2 Kept ∷ [])) 0 ≡ record { free = 1; blocked = 5000 }
  pub unfilled : money_of (after odd (buy 0 5000 2 ImmediateOrCancel ∷ [])) 0 ≡ record { free = 5001; blocked = 0 }
  -- "its closing price is in percent, rounded as in T-01": 19,901 / 2
  pub closing_at : closing_price (turnover_at two_prices.turnover 0) ≡ 9951
  pub ended : take 8 (list_after closing_pair end_session) ≡ 3 ∷ 3 ∷ 0 ∷ 1 ∷ 0 ∷ 9951 ∷ 1 ∷ 99510 ∷ []
  -- the auction's price is in percent, too: 9,900 for 2 pieces of 12,345
  pub auction : take 8 (list_after collected end_collecting) ≡ 1 ∷ 1 ∷ 0 ∷ 1 ∷ 0 ∷ 9900 ∷ 2 ∷ 24443 ∷ []
  pub freed : money_of (after collected (end_collecting ∷ [])) 0 ≡ record { free = 75557; blocked = 0 }

-- all of them hold
pub percent_edge : PercentEdge
unfolding opens after gives list_after funds bought odd two_prices closing_pair collected sum_for money_for value_for pieces_of
    closing_price nearest
percent_edge = record {
  none = refl;
  lowest = refl;
  highest = refl;
  too_low = refl;
  too_high = refl;
  wrong_line = refl;
  before_rate = refl;
  past_count = refl;
  top_price = refl;
  over_top = refl;
  off_step = refl;
  step_over_top = refl;
  in_percent = refl;
  in_units = refl;
  sum = refl;
  enough = refl;
  one_short = refl;
  largest = refl;
  trade_sum = refl;
  buyer = refl;
  seller = refl;
  market = refl;
  cancelled = refl;
  turnover = refl;
  odd_unit = refl;
  unfilled = refl;
  closing_at = refl;
  ended = refl;
  auction = refl;
  freed = refl;
}
