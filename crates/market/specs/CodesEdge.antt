-- Codes and arrival at their edges (T-07; lot 10, step 5): computed on the definition, as one joint theorem.
use Rattle.std.specs.Prelude.{ℕ, ◌≡◌, refl, List, [], ◌∷◌, true, false, replicate, take}
use Rattle.market.specs.declared.Asset.TheVariants.{Pieces}
use Rattle.market.specs.declared.Kind.TheVariants as kind
use Rattle.market.specs.declared.Order.{Order}
use Rattle.market.specs.declared.Side.TheVariants.{Buy, Sell}
use Rattle.market.specs.declared.TimeInForce.TheVariants.{ImmediateOrCancel, Kept}
use Rattle.market.specs.Day.{Day, with_codes, with_waiting}
use Rattle.market.specs.Codes.{given}
use Rattle.market.specs.Sound.{sound}
use Rattle.market.specs.Calls.{Call, cancel, closing_order, end_collecting, end_session, increase, linked, start_closing}
use Rattle.market.specs.Calls.{start_collecting}
use Rattle.market.specs.Offers.{counter_offer, meets, offered}
use Rattle.market.specs.Edge.{after, buy, empty, gives, list_after, member, refusal, registered, sell, start}
use Rattle.market.specs.OfferEdge.{makes}

-- both participants have pieces
unfoldable pub sellers : Day
sellers = after start (increase Pieces 0 0 100 ∷ [])

-- of two sells at 95, participant 1's is older and has his code 2; participant 0's has his code 1
abbrev pub two_sells : List Call
two_sells = sell 1 110 1 Kept ∷ sell 1 95 5 Kept ∷ sell 0 95 5 Kept ∷ []

unfoldable pub older : Day
older = after sellers two_sells

-- the same two collected, with a buy of participant 0
unfoldable pub collected : Day
collected = after (after sellers (start_collecting ∷ two_sells)) (buy 0 95 5 Kept ∷ [])

-- of two closing sells, participant 1's is older and has code 3; participant 0's has code 2
unfoldable pub closes : Day
closes =
    after sellers
    (sell 1 95 5 Kept ∷ buy 0 95 5 Kept ∷ sell 1 100 1 ImmediateOrCancel ∷ start_closing ∷ closing_order 1 Sell 0 1
    ∷ closing_order 0 Sell 0 1 ∷ closing_order 0 Buy 0 1 ∷ [])

-- of two offers to sell, participant 1's is older and has code 2; participant 0's has code 1
unfoldable pub offers : Day
offers = (makes (makes (after sellers (sell 1 110 1 Kept ∷ [])) 1 Sell 5 95 300 7).day 0 Sell 5 95 300 7).day

-- both participants have an order of code 1
unfoldable pub ones : Day
ones = after start (buy 0 50 1 Kept ∷ sell 1 200 1 Kept ∷ [])

-- participant 1 has given 3 codes, participant 0 one
unfoldable pub beside : Day
beside = after start (sell 1 95 1 Kept ∷ sell 1 95 1 Kept ∷ sell 1 95 1 Kept ∷ buy 0 50 1 Kept ∷ [])

-- so many codes are given to participant 0 and to participant 1, and so many stand past both
unfoldable pub counts : ℕ → ℕ → ℕ → Day
counts zeroth first past = with_codes start (zeroth ∷ first ∷ replicate 14 past)

-- participant 1's two sells, under these codes and arrival numbers; he has given 2
abbrev pub sale : ℕ → ℕ → Order
sale code arrival = record {
  code = code;
  participant = 1;
  side = Sell;
  arrival = arrival;
  security = 0;
  lots = 5;
  kind = kind.Kept 95;
}

unfoldable pub sales : (code arrival next later : ℕ) → Day
sales code arrival next later =
    with_waiting (after start (sell 1 95 5 Kept ∷ sell 1 95 5 Kept ∷ [])) (sale code arrival ∷ sale next later ∷ [])

-- the cases, a field each
pub record CodesEdge : Type 0 where
  -- "Wherever lower code stood, earlier arrival now stands": at equal prices, "in the auction and the closing session too",
  -- and among counter offers
  pub trading : take 8 (list_after older (buy 0 95 5 Kept)) ≡ 2 ∷ 2 ∷ 0 ∷ 1 ∷ 0 ∷ 95 ∷ 5 ∷ 4750 ∷ []
  pub auction : take 8 (list_after collected end_collecting) ≡ 2 ∷ 2 ∷ 0 ∷ 1 ∷ 0 ∷ 95 ∷ 5 ∷ 4750 ∷ []
  pub closing : take 8 (list_after closes end_session) ≡ 3 ∷ 3 ∷ 0 ∷ 1 ∷ 0 ∷ 95 ∷ 1 ∷ 950 ∷ []
  pub offer : (makes offers 0 Buy 5 95 300 7).trades ≡ record {
    buy_code = 2;
    sell_code = 2;
    buyer = 0;
    seller = 1;
    security = 0;
    price = 95;
    lots = 5;
    sum = 4750;
  } ∷ []
  -- a code is its participant's own: each cancels his order of code 1, and no other
  pub own : gives ones (cancel 0 1) ≡ registered 1 0 0 0
  pub other : gives (after ones (cancel 0 1 ∷ [])) (cancel 1 1) ≡ registered 1 0 0 0
  pub gone : gives (after ones (cancel 0 1 ∷ [])) (cancel 0 1) ≡ refusal 16 0
  pub foreign : gives (after ones (sell 1 200 1 Kept ∷ [])) (cancel 0 2) ≡ refusal 16 0
  -- a group answers his first code, and "trades carry both members' own codes"
  pub group : gives beside (linked 0 2 (member 95 1 ∷ member 95 1 ∷ [])) ≡ registered 2 2 0 2
  pub group_trades :
      take 16 (list_after beside (linked 0 2 (member 95 1 ∷ member 95 1 ∷ [])))
      ≡ 2 ∷ 1 ∷ 0 ∷ 1 ∷ 0 ∷ 95 ∷ 1 ∷ 950 ∷ 3 ∷ 2 ∷ 0 ∷ 1 ∷ 0 ∷ 95 ∷ 1 ∷ 950 ∷ []
  -- "at most 62,500 a day": "Question 13 reads that member's count"
  pub last_code : gives (counts 62499 62500 0) (buy 0 100 1 Kept) ≡ registered 62500 0 1 0
  pub no_code : gives (counts 62500 0 0) (buy 0 100 1 Kept) ≡ refusal 13 0
  pub other_code : gives (counts 62500 3 0) (sell 1 95 1 Kept) ≡ registered 4 0 1 0
  pub second_member :
      gives (after (counts 62499 0 0) (sell 1 95 2 Kept ∷ [])) (linked 0 2 (member 95 1 ∷ member 95 1 ∷ [])) ≡ refusal 13 2
  -- 21 "once a code has been given", whoever has it
  pub any_code : gives (counts 0 1 0) start_collecting ≡ refusal 21 0
  -- "Places past the counts aren't read"
  pub unread : given (counts 3 4 18446744073709551615) ≡ 7
  pub unasked : gives (counts 0 0 18446744073709551615) start_collecting ≡ registered 0 0 0 0
  pub untouched :
      (after (counts 0 0 18446744073709551615) (buy 0 100 1 Kept ∷ [])).codes ≡ 1 ∷ 0 ∷ replicate 14 18446744073709551615
  -- sound: each count within the limit; arrivals rise from 1 to all codes given; each member's codes rise from 1 to his count
  pub full : sound (counts 62500 62500 0) ≡ true
  pub over : sound (counts 62501 0 0) ≡ false
  pub over_other : sound (counts 0 62501 0) ≡ false
  pub lower_later : sound older ≡ true
  pub as_given : sound (sales 1 1 2 2) ≡ true
  pub codes_fall : sound (sales 2 1 1 2) ≡ false
  pub codes_equal : sound (sales 2 1 2 2) ≡ false
  pub arrivals_fall : sound (sales 1 2 2 1) ≡ false
  pub arrivals_equal : sound (sales 1 2 2 2) ≡ false
  pub code_zero : sound (sales 0 1 1 2) ≡ false
  pub arrival_zero : sound (sales 1 0 2 1) ≡ false
  pub code_over : sound (sales 1 1 3 2) ≡ false
  pub arrival_over : sound (sales 1 1 2 3) ≡ false

-- all of them hold
pub codes_edge : CodesEdge
unfolding after gives list_after empty start offered counter_offer meets sellers older collected closes offers ones beside counts sales
codes_edge = record {
  trading = refl;
  auction = refl;
  closing = refl;
  offer = refl;
  own = refl;
  other = refl;
  gone = refl;
  foreign = refl;
  group = refl;
  group_trades = refl;
  last_code = refl;
  no_code = refl;
  other_code = refl;
  second_member = refl;
  any_code = refl;
  unread = refl;
  unasked = refl;
  untouched = refl;
  full = refl;
  over = refl;
  over_other = refl;
  lower_later = refl;
  as_given = refl;
  codes_fall = refl;
  codes_equal = refl;
  arrivals_fall = refl;
  arrivals_equal = refl;
  code_zero = refl;
  arrival_zero = refl;
  code_over = refl;
  arrival_over = refl;
}
