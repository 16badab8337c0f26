-- What an entered offer's trades leave in the records.
use Prim.Native.Nat.{ℕ, ◌<◌}
use native.Mathlib.Omega.{arith}
use mathlib.Core.Path.{◌≡◌, refl}
use mathlib.Core.List.{List, [], ◌∷◌}
use lib.ListN.{length}
use Rattle.market.specs.TradeList.{Trade, written}
use Rattle.market.specs.Deals.{deal_of, deals_of}
use Rattle.invariant.proofs.Offers.{AtMostOne}
use Rattle.dealings.specs.Recording.{Limited, Readable, deals_in}

-- the deals read from the list to which these trades were written are the definition's
module _ (date rate term : ℕ) (P : Trade → Type 0) where
  pub deals_read : (ts : List Trade) (v : List ℕ) → AtMostOne P ts
      → deals_in (length ts) date rate term (written ts v) ≡ deals_of date rate term ts
  deals_read [] v h = refl
  deals_read (t ∷ []) v h = refl
  deals_read (t ∷ s ∷ ts) v h = absurd h

  pub deal_readable : ((t : Trade) → P t → Limited (deal_of date rate term t)) → (ts : List Trade) (v : List ℕ) → AtMostOne P ts
      → 0 < length ts → Readable date rate term (written ts v)
  deal_readable f [] v h some = absurd (omega arith)
  deal_readable f (t ∷ []) v h some = record { lent = omega arith; limited = f t h }
  deal_readable f (t ∷ s ∷ ts) v h some = absurd h
