-- Repurchase deals (T-06): their days and sums, what is asked of them, and what a second part and a new day do to the day.
use Rattle.std.specs.Prelude.{ℕ, ◌+◌, ◌-◌, List, [], ◌∷◌, Bool, get_or, length, replicate}
use Rattle.market.specs.declared.Deal.{Deal}
use Rattle.market.specs.declared.Phase.TheVariants.{Open}
use Rattle.market.specs.declared.Rules.{Rules}
use Rattle.market.specs.declared.Security.{Security}
use Rattle.market.specs.Limits.{last_day, max_deals, max_first_sum, max_offer_rate, max_securities, max_term}
use Rattle.market.specs.Tests.{◌<?◌, ◌and◌, ◌≤?◌, known, remove_at, within}
use Rattle.market.specs.declared.Asset.{Asset}
use Rattle.market.specs.declared.Asset.TheVariants.{Money, Pieces}
use Rattle.market.specs.Day.{Day, currency_of, no_turnover, row, with_codes, with_phase, with_turnover}
use Rattle.market.specs.Codes.{no_codes}
use Rattle.market.specs.Needs.{pieces_of, sum_for}
use Rattle.market.specs.Calendar.{second_sum}
use Rattle.market.specs.Positions.{draw, receive}
use Rattle.market.specs.Sound.{lots_sound, price_sound}
use Rattle.market.specs.TradeList.{Trade}
use Rattle.market.specs.Questions.{is_free}
use Rattle.market.specs.Step.{moved}

-- the deal that a first part opens on this date, between offers of this rate and term
abbrev pub deal_of : (date rate term : ℕ) → Trade → Deal
deal_of date rate term t = record {
  price = t.price;
  first = date;
  lots = t.lots;
  rate = rate;
  term = term;
  buyer = t.buyer;
  seller = t.seller;
  security = t.security;
}

-- those of an offer's trades, of which there is at most one
abbrev pub deals_of : (date rate term : ℕ) → List Trade → List Deal
deals_of date rate term [] = []
deals_of date rate term (t ∷ ts) = deal_of date rate term t ∷ deals_of date rate term ts

-- what stands past a list's end
abbrev pub no_deal : Deal
no_deal = record { price = 0; first = 0; lots = 0; rate = 0; term = 0; buyer = 0; seller = 0; security = 0 }

-- "a call names one by its place in the list, from 1"
abbrev pub deal_at : List Deal → ℕ → Deal
deal_at deals place = get_or deals (place - 1) no_deal

-- the deal at this place has ended, and those behind it close up
abbrev pub end_deal : List Deal → ℕ → List Deal
end_deal deals place = remove_at deals (place - 1)

-- "its due day (first day plus term)"
abbrev pub due_day : Deal → ℕ
due_day x = x.first + x.term

-- "S1 is the first sum", without the fee
abbrev pub first_sum : Rules → Deal → ℕ
first_sum r x = sum_for (row r x.security) x.price x.lots

-- what the second part returns, and for how much
abbrev pub pieces_back : Rules → Deal → ℕ
pieces_back r x = pieces_of (row r x.security) x.lots

abbrev pub money_back : Rules → Deal → ℕ
money_back r x = second_sum (first_sum r x) x.rate x.first x.term

-- 24. of an offer or a deal whose first day this is: "a term outside 1 to 365", "a .. due day outside the table"
unfoldable pub term_sound : (first term : ℕ) → Bool
term_sound first term = within 1 max_term term and first + term ≤? last_day

-- 25. "a rate over 5,000 or S1 over 10^10"
unfoldable pub loan_sound : Security → (price lots rate : ℕ) → Bool
loan_sound l price lots rate = rate ≤? max_offer_rate and sum_for l price lots ≤? max_first_sum

-- 26. "an offer while 64 deals are open"
abbrev pub deals_room : List Deal → Bool
deals_room deals = length deals <? max_deals

-- a deal of known participants in a known security, as the questions of its offers asked for it
unfoldable pub deal_sound : Rules → Deal → Bool
deal_sound r x =
    known x.buyer r.participants
    and known x.seller r.participants
    and known x.security r.securities
    and lots_sound x.lots
    and price_sound (row r x.security) x.price
    and term_sound x.first x.term
    and loan_sound (row r x.security) x.price x.lots x.rate

-- "oldest first": first days don't fall, from one day to another
unfoldable pub by_age : (from to : ℕ) → List Deal → Bool
by_age from to [] = from ≤? to
by_age from to (x ∷ deals) = from ≤? x.first and by_age x.first to deals

-- so much of an asset goes from what is free of p to what is free of q
unfoldable pub handed : Asset → Day → (p q column amount : ℕ) → Day
handed x d p q column amount = moved x (moved x d p column (draw amount)) q column (receive amount)

-- "The second part returns the pieces", for the second sum; no tariff is paid
unfoldable pub second_paid : Day → Deal → Day
second_paid d x =
    let back : Day = handed Pieces d x.buyer x.seller x.security (pieces_back d.rules x) in
    handed Money back x.seller x.buyer (currency_of d.rules x.security) (money_back d.rules x)

-- 14. "one that a side's free amount can't cover": the first buyer's pieces, the first seller's money
abbrev pub covers_back : Day → Deal → Bool
covers_back d x =
    is_free Pieces d x.buyer x.security (pieces_back d.rules x)
    and is_free Money d x.seller (currency_of d.rules x.security) (money_back d.rules x)

-- "a later day, open, with Q, T and codes at zero"; once closed nothing waits
unfoldable pub begins : Day → Day
begins d = with_turnover (with_phase (with_codes d no_codes) Open) (replicate max_securities no_turnover)
