-- The pairing of orders under terms, on a lent floor: what it asks, and what it does.
use Rattle.std.specs.Prelude.{ℕ, ◌+◌, ◌*◌, ◌≤◌, ◌<◌, ◌≡◌, List, Bool, true, false, length, Option, None, Some}
use Rattle.market.specs.declared.Floor.{Floor}
use Rattle.market.specs.declared.Kind.{Kind}
use Rattle.market.specs.declared.Kind.TheVariants as kind
use Rattle.market.specs.declared.Rules.{Rules}
use Rattle.market.specs.Limits.{max_lots, max_waiting, numbers_per_trade}
use Rattle.market.specs.View.{day_of}
use Rattle.market.specs.TradeList.{lots_of}
use Rattle.market.specs.Matching.{Best, found, none}
use Rattle.market.specs.Pairing.{Paired, Terms, pairs}
use Rattle.invariant.specs.Standing.{Standing}
use Rattle.invariant.proofs.Pairing.{Fair}
use Rattle.matching.proofs.Writing.{written_from}
use Rattle.pairing.specs.declared.Pair.{Pair}
use Rattle.pairing.specs.declared.Tally.{Tally}

-- a buy and a sell are found for good: of closing orders, which have no price, the first found is the best
abbrev pub decided : Kind → Best → Best → Bool
decided (kind.Kept p) x y = false
decided kind.Closing none y = false
decided kind.Closing (found i p) none = false
decided kind.Closing (found i p) (found j q) = true
decided (kind.Offer rate term p) x y = false

-- the places of a buy and a sell that are both found
abbrev pub pair_of : Best → Best → Option Pair
pair_of none y = None
pair_of (found i p) none = None
pair_of (found i p) (found j q) = Some (record { buy = i; sell = j })

-- lots and trades so far, with room for a trade with each waiting order in the lent list v
pub record Counts (f : Floor) (c : Tally) (v : List ℕ) : Type 0 where
  pub most : c.trades + f.count ≤ max_waiting
  pub few : c.lots ≤ max_lots * c.trades
  pub lent : numbers_per_trade * (c.trades + f.count) ≤ length v

-- security s is known, the day is sound, the terms t are fair to its buys, and there is such room
pub record Pairable (r : Rules) (f : Floor) (s : ℕ) (t : Terms) (c : Tally) (v : List ℕ) : Type 0 where
  pub known : s < r.securities
  pub standing : Standing (day_of r f)
  pub fair : Fair s t (day_of r f)
  pub counts : Counts f c v

-- day, lots, trades and lent list are those of a pairing p of the definition, beside those before it
pub record PairedAs (p : Paired) (r : Rules) (c : Tally) (v : List ℕ) (f' : Floor) (c' : Tally) (v' : List ℕ) : Type 0 where
  pub day : day_of r f' ≡ p.day
  pub standing : Standing p.day
  pub lots : c'.lots ≡ c.lots + lots_of p.trades
  pub trades : c'.trades ≡ c.trades + length p.trades
  pub list : v' ≡ written_from c.trades p.trades v

-- and there is room for what comes next
pub record Pairs (r : Rules) (f : Floor) (s : ℕ) (t : Terms) (c : Tally) (v : List ℕ) (f' : Floor) (c' : Tally) (v' : List ℕ)
    : Type 0 where
  pub paired : PairedAs (pairs s t (day_of r f)) r c v f' c' v'
  pub counts : Counts f' c' v'
  pub long : length v' ≡ length v
