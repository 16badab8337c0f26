-- The book where two members have the same code (T-07), computed: an order is named by participant and code.
use Rattle.std.specs.Prelude.{ℕ, ◌≡◌, refl, [], ◌∷◌}
use Rattle.market.specs.declared.Kind.TheVariants as kind
use Rattle.market.specs.declared.Side.TheVariants.{Buy}
use Rattle.market.specs.Tests.{◌and◌, sum_of}
use Rattle.market.specs.TradeList.{Trade}
use Rattle.conservation.specs.Book.{Waiting, drop_order, is_order, take_lots}
use Rattle.conservation.specs.Statement.{own_lots}

-- participant p's order of code 1, a buy at 95
abbrev pub bid : ℕ → ℕ → Waiting
bid p lots = record { participant = p; code = 1; side = Buy; security = 0; lots = lots; kind = kind.Kept 95 }

-- participant p buys so many pieces at 95 under his code 1
abbrev pub bought : ℕ → ℕ → Trade
bought p lots = record {
  buy_code = 1;
  sell_code = 7;
  buyer = p;
  seller = 2;
  security = 0;
  price = 95;
  lots = lots;
  sum = 0;
}

-- the cases, a field each
pub record BookEdge : Type 0 where
  -- "The lots come off the buyer's order of the buy code .."; "one with no lots left goes"
  pub lots_off : take_lots 0 1 2 (bid 1 5 ∷ bid 0 5 ∷ []) ≡ bid 1 5 ∷ bid 0 3 ∷ []
  pub none_left : take_lots 0 1 5 (bid 1 5 ∷ bid 0 5 ∷ []) ≡ bid 1 5 ∷ []
  -- "Cancellation: that order goes"
  pub cancelled : drop_order 0 1 (bid 1 5 ∷ bid 0 5 ∷ []) ≡ bid 1 5 ∷ []
  pub unknown : drop_order 2 1 (bid 1 5 ∷ bid 0 5 ∷ []) ≡ bid 1 5 ∷ bid 0 5 ∷ []
  -- a member's lots: "trades where the participant stands on the member's side, with the answered code .."
  pub own_trades : sum_of (own_lots Buy 0 1) (bought 1 4 ∷ bought 0 3 ∷ []) ≡ 3

-- all of them hold
pub book_edge : BookEdge
unfolding ◌and◌ is_order take_lots drop_order own_lots
book_edge = record { lots_off = refl; none_left = refl; cancelled = refl; unknown = refl; own_trades = refl }
