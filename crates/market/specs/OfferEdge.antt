-- Repurchase offers at their edges (T-06): computed on the definition, as one joint theorem. The rate of the tariff is 1,000
-- hundred-thousandths, a lot 10 pieces.
use Rattle.std.specs.Prelude.{ℕ, ◌≡◌, refl, [], ◌∷◌, true, false, length}
use Rattle.market.specs.declared.Phase.TheVariants.{Collecting}
use Rattle.market.specs.declared.Side.{Side}
use Rattle.market.specs.declared.Side.TheVariants.{Buy, Sell}
use Rattle.market.specs.declared.TimeInForce.TheVariants.{ImmediateOrCancel, Kept}
use Rattle.market.specs.Day.{Day, account, cell, no_turnover, position, turnover_at, with_phase}
use Rattle.market.specs.Sound.{sound}
use Rattle.market.specs.Answers.{Numbers, Result, numbers_of}
use Rattle.market.specs.Calls.{cancel, start_closing}
use Rattle.market.specs.Offers.{counter_offer, meets, offer_of, offered}
use Rattle.market.specs.Edge.{after, buy, gives, registered, sell}
use Rattle.market.specs.TariffEdge.{held, money_of}

-- an accepted offer of participant p in security 0
abbrev pub makes : Day → ℕ → Side → (lots price rate term : ℕ) → Result
makes d p side lots price rate term = offered d (offer_of d p (record { side = side; security = 0; price = price; lots = lots }) rate term)

unfoldable pub answered : Day → ℕ → Side → (lots price rate term : ℕ) → Numbers
answered d p side lots price rate term = numbers_of (makes d p side lots price rate term).answer

-- participant 1 offers to sell 10 lots at 95, for 7 days at 300 hundredths of a percent; participant 0 has 30,000
unfoldable pub waits : Day
waits = (makes (held 30000) 1 Sell 10 95 300 7).day

-- and the same a second time
unfoldable pub twice : Day
twice = (makes waits 1 Sell 10 95 300 7).day

-- participant 0 takes the first
unfoldable pub meets_first : Result
meets_first = makes twice 0 Buy 10 95 300 7

-- the cases, a field each
pub record OfferEdge : Type 0 where
  -- it "blocks like one and waits among the 128"
  pub enters : answered (held 30000) 1 Sell 10 95 300 7 ≡ registered 1 0 10 0
  pub blocks : position waits.pieces (cell 1 0) ≡ record { free = 100; blocked = 100 }
  pub soundly : sound waits ≡ true
  -- "It meets the oldest counter offer with all of these equal": participant 1's code 1, and his code 2 stays
  pub met : numbers_of meets_first.answer ≡ registered 1 10 0 1
  pub oldest : meets_first.trades ≡ record {
    buy_code = 1;
    sell_code = 1;
    buyer = 0;
    seller = 1;
    security = 0;
    price = 95;
    lots = 10;
    sum = 9500;
  } ∷ []
  pub one_left : length meets_first.day.waiting ≡ 1
  -- another rate, term, price or number of lots, and the same side, only wait
  pub rate : answered waits 0 Buy 10 95 301 7 ≡ registered 1 0 10 0
  pub term : answered waits 0 Buy 10 95 300 8 ≡ registered 1 0 10 0
  pub price : answered waits 0 Buy 10 100 300 7 ≡ registered 1 0 10 0
  pub part : answered waits 0 Buy 9 95 300 7 ≡ registered 1 0 9 0
  pub side : answered waits 1 Sell 10 95 300 7 ≡ registered 2 0 10 0
  -- "never an order", neither as it enters nor as it waits
  pub order : answered (after (held 30000) (sell 1 95 10 Kept ∷ [])) 0 Buy 10 95 300 7 ≡ registered 1 0 10 0
  pub kept_order : gives waits (buy 0 100 20 Kept) ≡ registered 1 0 20 0
  pub immediate : gives waits (buy 0 100 20 ImmediateOrCancel) ≡ registered 1 0 0 0
  -- "The first part settles as a trade, outside Q and T", and "pays the tariff"
  pub buyer : money_of meets_first.day 0 ≡ record { free = 20405; blocked = 0 }
  pub seller : money_of meets_first.day 1 ≡ record { free = 9405; blocked = 0 }
  pub market : account meets_first.day.money 0 ≡ 190
  pub delivered : position meets_first.day.pieces (cell 0 0) ≡ record { free = 100; blocked = 0 }
  pub uncounted : turnover_at meets_first.day.turnover 0 ≡ no_turnover
  -- "A cancellation and the start of closing take offers off like orders"
  pub cancelled : position (after waits (cancel 1 1 ∷ [])).pieces (cell 1 0) ≡ record { free = 200; blocked = 0 }
  pub started : position (after twice (start_closing ∷ [])).pieces (cell 1 0) ≡ record { free = 200; blocked = 0 }
  -- what waits has a rate of at most 5,000 and a term of 1 to 365, and waits only while open
  pub highest : sound (makes (held 30000) 1 Sell 10 95 5000 365).day ≡ true
  pub rate_over : sound (makes (held 30000) 1 Sell 10 95 5001 365).day ≡ false
  pub term_over : sound (makes (held 30000) 1 Sell 10 95 5000 366).day ≡ false
  pub no_term : sound (makes (held 30000) 1 Sell 10 95 5000 0).day ≡ false
  pub off_step : sound (makes (held 30000) 1 Sell 10 96 300 7).day ≡ false
  pub collecting : sound (with_phase waits Collecting) ≡ false

-- all of them hold
pub offer_edge : OfferEdge
unfolding answered waits twice meets_first after gives held offered counter_offer meets
offer_edge = record {
  enters = refl;
  blocks = refl;
  soundly = refl;
  met = refl;
  oldest = refl;
  one_left = refl;
  rate = refl;
  term = refl;
  price = refl;
  part = refl;
  side = refl;
  order = refl;
  kept_order = refl;
  immediate = refl;
  buyer = refl;
  seller = refl;
  market = refl;
  delivered = refl;
  uncounted = refl;
  cancelled = refl;
  started = refl;
  highest = refl;
  rate_over = refl;
  term_over = refl;
  no_term = refl;
  off_step = refl;
  collecting = refl;
}
