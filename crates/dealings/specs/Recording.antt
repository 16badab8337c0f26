-- The deals that an entered offer's trades open, as they are read from the lent list, and that they go last.
use Rattle.std.specs.Prelude.{ℕ, zero, suc, ◌≤◌, ◌<◌, ◌≡◌, List, [], ◌∷◌, ◌++◌, get_or, length}
use Rattle.market.specs.declared.Deal.{Deal}
use Rattle.market.specs.declared.Records.{Records}
use Rattle.market.specs.Limits.{columns, last_day, max_lots, max_offer_rate, max_price, max_term, numbers_per_trade}
use Rattle.market.specs.Ledger.{first_deals}

-- the deal of the list's first trade
abbrev pub deal_in : (date rate term : ℕ) → List ℕ → Deal
deal_in date rate term v = record {
  price = get_or v 5 0;
  first = date;
  lots = get_or v 6 0;
  rate = rate;
  term = term;
  buyer = get_or v 2 0;
  seller = get_or v 3 0;
  security = get_or v 4 0;
}

-- its numbers are within the limits
pub record Limited (x : Deal) : Type 0 where
  pub price : x.price ≤ max_price
  pub first : x.first ≤ last_day
  pub lots : x.lots ≤ max_lots
  pub rate : x.rate ≤ max_offer_rate
  pub term : x.term ≤ max_term
  pub buyer : x.buyer < columns
  pub seller : x.seller < columns
  pub security : x.security < columns

-- a trade stands in the list, and its deal is within the limits
pub record Readable (date rate term : ℕ) (v : List ℕ) : Type 0 where
  pub lent : numbers_per_trade ≤ length v
  pub limited : Limited (deal_in date rate term v)

-- the deals of so many trades, of which there is at most one
abbrev pub deals_in : (made date rate term : ℕ) → List ℕ → List Deal
deals_in zero date rate term v = []
deals_in (suc n) date rate term v = deal_in date rate term v ∷ []

-- the records have these deals more, the last
pub record Adds (z : Records) (more : List Deal) (z' : Records) : Type 0 where
  pub date : z'.date ≡ z.date
  pub deals : first_deals z'.count z'.deals ≡ first_deals z.count z.deals ++ more
