-- An accepted offer on a lent floor: what it asks, and what it does.
use Rattle.std.specs.Prelude.{ℕ, ◌-◌, ◌≤◌, ◌<◌, ◌≡◌, List, true, length}
use Rattle.market.specs.declared.Answer.{Answer}
use Rattle.market.specs.declared.Answer.TheVariants.{Done}
use Rattle.market.specs.declared.Floor.{Floor}
use Rattle.market.specs.declared.Order.{Order}
use Rattle.market.specs.declared.Rules.{Rules}
use Rattle.market.specs.Limits.{numbers_per_trade}
use Rattle.market.specs.Day.{Day, order_at}
use Rattle.market.specs.View.{day_of}
use Rattle.market.specs.Needs.{price_or}
use Rattle.market.specs.TradeList.{written}
use Rattle.market.specs.Answers.{Result}
use Rattle.market.specs.Matching.{if_buy}
use Rattle.market.specs.Offers.{meets}
use Rattle.market.specs.Pairing.{Paired, pair_one}
use Rattle.invariant.specs.Standing.{Placeable, Standing}

-- e, which stands at place last, trades whole with its counter offer at place i
abbrev pub pair_up : Day → Order → (last i : ℕ) → Paired
pair_up d e last i =
    pair_one d (if_buy e.side last i) (if_buy e.side i last) (price_or 0 e.kind) e.lots

-- the order that stands last
abbrev pub last_order : Floor → Order
last_order f = order_at f.orders (f.count - 1)

-- the day is sound; the order that stands last is an offer, its counter offer stands at place i before it, and the lent list v
-- has room for a trade
pub record Meetable (r : Rules) (f : Floor) (i : ℕ) (v : List ℕ) : Type 0 where
  pub standing : Standing (day_of r f)
  pub inside : i < f.count - 1
  pub meets : meets (last_order f) (order_at f.orders i) ≡ true
  pub lent : numbers_per_trade ≤ length v

-- day and lent list are those of a trade p of the definition, and the answer shows that all lots of e are filled
pub record MetAs (p : Paired) (e : Order) (r : Rules) (v : List ℕ) (f' : Floor) (v' : List ℕ) (a : Answer) : Type 0 where
  pub day : day_of r f' ≡ p.day
  pub list : v' ≡ written p.trades v
  pub answer : a ≡ Done e.code e.lots 0 1

abbrev pub FirstParts : Rules → Floor → ℕ → (v : List ℕ) → Floor → (v' : List ℕ) → Answer → Type 0
FirstParts r f i v f' v' a = MetAs (pair_up (day_of r f) (last_order f) (f.count - 1) i) (last_order f) r v f' v' a

-- the day is sound, an offer passed its questions, and the lent list v has room for a trade
pub record Offerable (r : Rules) (f : Floor) (e : Order) (v : List ℕ) : Type 0 where
  pub standing : Standing (day_of r f)
  pub placeable : Placeable (day_of r f) e
  pub lent : numbers_per_trade ≤ length v

-- answer, day and lent list are those of a result
pub record OfferedAs (z : Result) (r : Rules) (v : List ℕ) (f' : Floor) (v' : List ℕ) (a : Answer) : Type 0 where
  pub answer : a ≡ z.answer
  pub day : day_of r f' ≡ z.day
  pub list : v' ≡ written z.trades v
