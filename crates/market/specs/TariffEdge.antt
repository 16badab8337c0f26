-- The tariff at its edges (T-03): computed on the definition, as one joint theorem. The rate is 1,000 hundred-thousandths.
use Rattle.std.specs.Prelude.{ℕ, ◌≡◌, refl, [], ◌∷◌, replicate, set, take}
use Rattle.market.specs.declared.Asset.TheVariants.{Money, Pieces}
use Rattle.market.specs.declared.Rules.{Rules}
use Rattle.market.specs.declared.Side.TheVariants.{Buy, Sell}
use Rattle.market.specs.declared.TimeInForce.TheVariants.{ImmediateOrCancel, Kept}
use Rattle.market.specs.Day.{Day, Position, account, cell, free_at, no_security, position, turnover_at, with_pieces}
use Rattle.market.specs.Limits.{market}
use Rattle.market.specs.Answers.{Numbers, numbers_of}
use Rattle.market.specs.Calls.{cancel, closing_order, decrease, end_collecting, end_session, increase, start_closing}
use Rattle.market.specs.Calls.{start_collecting}
use Rattle.market.specs.Opening.{opening}
use Rattle.market.specs.Edge.{after, buy, gives, list_after, refusal, registered, sell}

-- two participants, one currency, one security of this lot size and step
abbrev pub tariff_rules : ℕ → ℕ → ℕ → Rules
tariff_rules lot step rate = record {
  participants = 2;
  currencies = 1;
  securities = 1;
  table = record { currency = 0; lot = lot; step = step; nominal = 0 } ∷ replicate 15 no_security;
  rate = rate;
}

-- what an opening answers
unfoldable pub opens : Rules → Numbers
opens r = numbers_of (opening r).answer

-- lot 10 and step 5: participant 0 has this free money, participant 1 has 200 pieces
unfoldable pub held : ℕ → Day
held amount =
    after (opening (tariff_rules 10 5 1000)).day (increase Money 0 0 amount ∷ increase Pieces 1 0 200 ∷ [])

-- "Sell 10 at 95 waits", participant 0 has 30,000
unfoldable pub offers : Day
offers = after (held 30000) (sell 1 95 10 Kept ∷ [])

-- and buys 20 at 100, of which 10 trade
unfoldable pub fills : Day
fills = after offers (buy 0 100 20 Kept ∷ [])

-- lot 1 and step 1: participant 0 has 199, and 1 lot at 99 waits
unfoldable pub odd : Day
odd =
    after (opening (tariff_rules 1 1 1000)).day
    (increase Money 0 0 199 ∷ increase Pieces 1 0 2 ∷ sell 1 99 1 Kept ∷ [])

-- one participant, one security: he has so many pieces, and 1 stands in the market's row of them
unfoldable pub besides : ℕ → Day
besides pieces =
    let d = (opening (record {
      participants = 1;
      currencies = 1;
      securities = 1;
      table = (tariff_rules 10 5 0).table;
      rate = 0;
    })).day in
    with_pieces d (set (set d.pieces (free_at (cell 0 0)) pieces) (free_at (cell market 0)) 1)

-- the money of participant p in currency 0
abbrev pub money_of : Day → ℕ → Position
money_of d p = position d.money (cell p 0)

-- the cases, a field each
pub record TariffEdge : Type 0 where
  -- "The opening sets a rate from 0 to 1,000"; "It refuses a rate above 1,000 with 22, after 18"
  pub highest : opens (tariff_rules 10 5 1000) ≡ registered 0 0 0 0
  pub too_high : opens (tariff_rules 10 5 1001) ≡ refusal 22 0
  pub wrong_line : opens (tariff_rules 0 5 1001) ≡ refusal 18 1
  -- "A buy order must block its sum plus the fee on that sum"
  pub enough : gives (held 20200) (buy 0 100 20 Kept) ≡ registered 1 0 20 0
  pub one_short : gives (held 20199) (buy 0 100 20 Kept) ≡ refusal 14 0
  -- "Each side of a trade pays": 9,595 leave the buyer, 9,405 reach the seller, 190 the account
  pub buyer : money_of fills 0 ≡ record { free = 10305; blocked = 10100 }
  pub seller : money_of fills 1 ≡ record { free = 9405; blocked = 0 }
  pub market : account fills.money 0 ≡ 190
  -- trade list and T stay without fees
  pub trade_sum : take 8 (list_after offers (buy 0 100 20 Kept)) ≡ 1 ∷ 1 ∷ 0 ∷ 1 ∷ 0 ∷ 95 ∷ 10 ∷ 9500 ∷ []
  pub turnover : turnover_at fills.turnover 0 ≡ record { pieces = 100; value = 9500 }
  -- "what its remaining lots need is reckoned the same way; whatever a partial fill leaves over is freed": 198 and 1 fall
  -- to 99, and 99 are paid
  pub odd_unit : money_of (after odd (buy 0 99 2 Kept ∷ [])) 0 ≡ record { free = 1; blocked = 99 }
  pub no_fee : account (after odd (buy 0 99 2 Kept ∷ [])).money 0 ≡ 0
  -- the places that free money free the fee with it: a cancellation, an unfilled part, the start of closing
  pub cancelled : money_of (after fills (cancel 0 1 ∷ [])) 0 ≡ record { free = 20405; blocked = 0 }
  pub unfilled : money_of (after offers (buy 0 100 20 ImmediateOrCancel ∷ [])) 0 ≡ record { free = 20405; blocked = 0 }
  pub started : money_of (after fills (start_closing ∷ [])) 0 ≡ record { free = 20405; blocked = 0 }
  -- a trade with oneself pays twice
  pub own :
      money_of (after (held 30000) (increase Pieces 0 0 100 ∷ sell 0 95 10 Kept ∷ buy 0 95 10 Kept ∷ [])) 0
      ≡ record { free = 29810; blocked = 0 }
  -- so do the trades of an auction and of the closing session
  pub auction :
      account (after (held 30000) (start_collecting ∷ sell 1 95 10 Kept ∷ buy 0 95 10 Kept ∷ end_collecting ∷ [])).money 0
      ≡ 190
  pub closing :
      account (after fills (start_closing ∷ closing_order 0 Buy 0 10 ∷ closing_order 1 Sell 0 10 ∷ end_session ∷ [])).money 0
      ≡ 380
  -- "A currency's total counts the market's account in"
  pub full : gives fills (increase Money 0 0 999999999970000) ≡ registered 0 0 0 0
  pub overfull : gives fills (increase Money 0 0 999999999970001) ≡ refusal 9 0
  -- a security's is over participants alone: what stands in the market's row of pieces isn't read
  pub unread : gives (besides 1000000000000) (decrease Pieces 0 0 1) ≡ registered 0 0 0 0
  pub uncounted : gives (besides 999999999999) (increase Pieces 0 0 1) ≡ registered 0 0 0 0
  pub full_pieces : gives (besides 1000000000000) (increase Pieces 0 0 1) ≡ refusal 9 0

-- all of them hold
pub tariff_edge : TariffEdge
unfolding opens after gives list_after held offers fills odd besides
tariff_edge = record {
  highest = refl;
  too_high = refl;
  wrong_line = refl;
  enough = refl;
  one_short = refl;
  buyer = refl;
  seller = refl;
  market = refl;
  trade_sum = refl;
  turnover = refl;
  odd_unit = refl;
  no_fee = refl;
  cancelled = refl;
  unfilled = refl;
  started = refl;
  own = refl;
  auction = refl;
  closing = refl;
  full = refl;
  overfull = refl;
  unread = refl;
  uncounted = refl;
  full_pieces = refl;
}
