-- The auction at its edges (T-02; lot 10, step 5): computed on the definition, as one joint theorem.
use Rattle.std.specs.Prelude.{◌≡◌, refl, List, [], ◌∷◌, take}
use Rattle.market.specs.declared.Phase.TheVariants.{Collecting, Open}
use Rattle.market.specs.declared.Side.TheVariants.{Buy}
use Rattle.market.specs.declared.TimeInForce.TheVariants.{FillOrKill, ImmediateOrCancel, Kept}
use Rattle.market.specs.Day.{Day, cell, no_turnover, position, turnover_at}
use Rattle.market.specs.Calls.{Call, cancel, closing_order, end_collecting, end_session, linked, start_closing}
use Rattle.market.specs.Calls.{start_collecting}
use Rattle.market.specs.Edge.{after, buy, empty, gives, list_after, member, refusal, registered, sell, start}

-- participant 0 has free money 30,000, participant 1 has 200 pieces, and orders are collected
unfoldable pub collecting : Day
collecting = after start (start_collecting ∷ [])

-- these orders are collected
unfoldable pub book : List Call → Day
book orders = after collecting orders

-- 5 lots trade at 100, 8 at 110
unfoldable pub most_lots : Day
most_lots = book (buy 0 110 8 Kept ∷ sell 1 100 5 Kept ∷ sell 1 110 4 Kept ∷ [])

-- 5 lots trade at 100 and at 105; the gap is 4 at 100, and 2 at 105, which only a buy wrote
unfoldable pub tie_by_gap : Day
tie_by_gap = book (sell 1 100 5 Kept ∷ buy 0 105 7 Kept ∷ buy 0 100 2 Kept ∷ [])

-- the same lots and the same gap at 100 and at 105
unfoldable pub tie_by_price : Day
tie_by_price = book (buy 0 105 5 Kept ∷ sell 1 100 5 Kept ∷ [])

-- no buy reaches a sell
unfoldable pub apart : Day
apart = book (buy 0 95 5 Kept ∷ sell 1 100 5 Kept ∷ [])

-- the cases, a field each
pub record AuctionEdge : Type 0 where
  -- "begun by a call while open"; "with 21 .. once a code has been given", whatever became of its order
  pub begun : gives start start_collecting ≡ registered 0 0 0 0
  pub begun_phase : collecting.phase ≡ Collecting
  pub code_given : gives (after start (buy 0 100 1 Kept ∷ cancel 0 1 ∷ [])) start_collecting ≡ refusal 21 0
  pub begun_twice : gives tie_by_gap start_collecting ≡ refusal 6 0
  -- "kept orders only wait", crossed ones too; "Question 6 admits kept orders and this end while collecting"
  pub waits : gives (book (sell 1 100 5 Kept ∷ [])) (buy 0 105 7 Kept) ≡ registered 1 0 7 0
  pub immediate : gives collecting (buy 0 105 7 ImmediateOrCancel) ≡ refusal 6 0
  pub whole_or_nothing : gives collecting (buy 0 105 7 FillOrKill) ≡ refusal 6 0
  pub group : gives collecting (linked 0 2 (member 95 1 ∷ member 95 1 ∷ [])) ≡ refusal 6 1
  pub closing : gives collecting start_closing ≡ refusal 6 0
  pub closing_entry : gives collecting (closing_order 0 Buy 0 1) ≡ refusal 6 0
  pub session : gives collecting end_session ≡ refusal 6 0
  pub not_collecting : gives start end_collecting ≡ refusal 6 0
  -- "the written price at which most lots trade"
  pub most : gives most_lots end_collecting ≡ registered 0 8 0 2
  pub most_trades :
      take 16 (list_after most_lots end_collecting)
      ≡ 1 ∷ 1 ∷ 0 ∷ 1 ∷ 0 ∷ 110 ∷ 5 ∷ 5500 ∷ 1 ∷ 2 ∷ 0 ∷ 1 ∷ 0 ∷ 110 ∷ 3 ∷ 3300 ∷ []
  -- "Ties go to the smaller gap between lots wanted and lots offered, then to the lower price"
  pub gap_trade : take 8 (list_after tie_by_gap end_collecting) ≡ 1 ∷ 1 ∷ 0 ∷ 1 ∷ 0 ∷ 105 ∷ 5 ∷ 5250 ∷ []
  pub price_trade : take 8 (list_after tie_by_price end_collecting) ≡ 1 ∷ 1 ∷ 0 ∷ 1 ∷ 0 ∷ 100 ∷ 5 ∷ 5000 ∷ []
  -- a buyer is freed by the fall in his own need: 5,250, of which 5,000 are paid
  pub freed :
      position (after tie_by_price (end_collecting ∷ [])).money (cell 0 0) ≡ record { free = 25000; blocked = 0 }
  -- "The rest come off, and continuous trading begins. .. These trades don't count for the closing price"
  pub comes_off : position (after tie_by_gap (end_collecting ∷ [])).money (cell 0 0) ≡ record { free = 24750; blocked = 0 }
  pub none_waits : (after tie_by_gap (end_collecting ∷ [])).waiting ≡ []
  pub opens : (after tie_by_gap (end_collecting ∷ [])).phase ≡ Open
  pub uncounted : turnover_at (after tie_by_gap (end_collecting ∷ [])).turnover 0 ≡ no_turnover
  -- "With no buy reaching a sell nothing trades"
  pub none : gives apart end_collecting ≡ registered 0 0 0 0
  pub none_moved : position (after apart (end_collecting ∷ [])).money (cell 0 0) ≡ record { free = 30000; blocked = 0 }
  -- an auction that nobody entered, begun again
  pub again : gives (after collecting (end_collecting ∷ [])) start_collecting ≡ registered 0 0 0 0

-- all of them hold
pub auction_edge : AuctionEdge
unfolding after gives list_after empty start collecting book most_lots tie_by_gap tie_by_price apart
auction_edge = record {
  begun = refl;
  begun_phase = refl;
  code_given = refl;
  begun_twice = refl;
  waits = refl;
  immediate = refl;
  whole_or_nothing = refl;
  group = refl;
  closing = refl;
  closing_entry = refl;
  session = refl;
  not_collecting = refl;
  most = refl;
  most_trades = refl;
  gap_trade = refl;
  price_trade = refl;
  freed = refl;
  comes_off = refl;
  none_waits = refl;
  opens = refl;
  uncounted = refl;
  none = refl;
  none_moved = refl;
  again = refl;
}
