-- An order claims what the code reckons and where it looks, by the order's side.
use Prim.Native.Nat.{ℕ, ◌+◌, ◌*◌, ◌≤◌, ◌<◌}
use native.Mathlib.Omega.{arith}
use mathlib.Core.Path.{◌≡◌, refl, sym, subst}
use mathlib.Core.List.{List, ◌++◌}
use mathlib.Core.Bool.{true}
use borrow.Author.Tests.{leb-true}
use Rattle.market.specs.declared.Asset.{Asset}
use Rattle.market.specs.declared.Asset.TheVariants.{Money, Pieces}
use Rattle.market.specs.declared.Floor.{Floor}
use Rattle.market.specs.declared.Order.{Order}
use Rattle.market.specs.declared.Rules.{Rules}
use Rattle.market.specs.declared.Side.{Side}
use Rattle.market.specs.declared.Side.TheVariants.{Buy, Sell}
use Rattle.market.specs.Limits.{cells, max_lots, max_price, money_limit}
use Rattle.market.specs.Day.{Day, Position, if_money, position, positions, total_limit, with_money, with_pieces, with_positions}
use Rattle.market.specs.Needs.{asset_of, cell_for, column_of, limit_of, need, need_at}
use Rattle.market.specs.Positions.{change, on_need, total}
use Rattle.market.specs.Questions.{covered}
use Rattle.market.specs.View.{day_of}
use Rattle.market.proofs.Known.{RulesOk, listing_ok}
use Rattle.invariant.specs.Standing.{Backed, needs_of}
use Rattle.invariant.proofs.Held.{held_within}
use Rattle.invariant.proofs.Backed.{column_known, need_blocked}
use Rattle.waiting.specs.Claims.{Blockable, Freeable, Reckonable, moved, position_for}

pub cell_inside : (d : Day) (o : Order) → Reckonable d o → cell_for d.rules o < cells
cell_inside d o c = go o.side
  where
    go : (x : Side) → o.participant * 16 + column_of x d.rules o.security < cells
    go Buy = omega (arith, c.participant, c.currency)
    go Sell = omega (arith, c.participant, c.security)

-- the need of a known order under sound rules, with a limit and lots in range
pub known_reckons : (d : Day) (o : Order) → RulesOk d.rules → o.participant < d.rules.participants → o.security < d.rules.securities
    → limit_of d.turnover o ≤ max_price → o.lots ≤ max_lots → Reckonable d o
known_reckons d o ok p s limit top = record {
  participant = omega (arith, p, ok.participants);
  security = omega (arith, s, ok.securities);
  currency = omega (arith, ok.currency o.security s, ok.currencies);
  listing = listing_ok d.rules o.security ok s;
  limit = limit;
  top = top;
}

-- what the code asks of the positions where an order of this side blocks
module _ (d : Day) (o : Order) (x : Side) (side : o.side ≡ x) {n at : ℕ} (own : n ≡ need d.rules d.turnover o)
    (here : at ≡ cell_for d.rules o) where
  abbrev there : Position
  there = position (if_money (asset_of x) d.money d.pieces) at

  found : there ≡ position_for d o
  found = rw (here, ← side)

  pub blocks_at : Blockable d o → (at < cells) × (n ≤ there.free) × (total there ≤ money_limit)
  unfolding covered
  blocks_at b = (
    rw here (cell_inside d o b.reckonable),
    rw own (subst (λ (q : Position). need d.rules d.turnover o ≤ q.free) (sym found)
        (leb-true (need d.rules d.turnover o) (position_for d o).free b.covered)),
    subst (λ (q : Position). total q ≤ money_limit) (sym found) b.within,
  )

  pub frees_at : Freeable d o → (at < cells) × (n ≤ there.blocked) × (total there ≤ money_limit)
  frees_at b = (
    rw here (cell_inside d o b.reckonable),
    rw own (subst (λ (q : Position). need d.rules d.turnover o ≤ q.blocked) (sym found) b.blocked),
    subst (λ (q : Position). total q ≤ money_limit) (sym found) b.within,
  )

-- a known order, with a limit and lots in range, on a day whose needs are blocked; x are the orders that block and do not wait
module _ (d : Day) (o : Order) (x : List Order) (backed : Backed x d) (hp : o.participant < d.rules.participants)
    (hs : o.security < d.rules.securities) (limit : limit_of d.turnover o ≤ max_price) (top : o.lots ≤ max_lots) where
  pub reckons : Reckonable d o
  reckons = known_reckons d o backed.rules_ok hp hs limit top

  low : (y : Asset) → total_limit y ≤ money_limit
  low Money = omega arith
  low Pieces = omega arith

  bounded : total (position_for d o) ≤ money_limit
  bounded =
      let y = asset_of o.side in
      omega (
        arith,
        held_within (backed.held y) o.participant (column_of o.side d.rules o.security) hp
            (column_known o.side d.rules o.security backed.rules_ok hs),
        low y,
      )

  pub blocks : covered d o ≡ true → Blockable d o
  blocks covers = record { reckonable = reckons; covered = covers; within = bounded }

  -- an order that is among those that block
  pub frees : ((y : Asset) (j : ℕ) → need_at y d.rules d.turnover j o ≤ needs_of y d (x ++ d.waiting) j) → Freeable d o
  frees listed = record { reckonable = reckons; blocked = need_blocked d o hp hs x backed listed; within = bounded }

-- the day on a floor that moved
pub moved_day : (g : ℕ → Position → Position) (r : Rules) (f : Floor) (o : Order)
    → day_of r (moved g r f o) ≡ on_need g (day_of r f) o
moved_day g r f o = go o.side
  where
    go : (x : Side) →
        let d : Day = day_of r f in
        let there : List ℕ → List ℕ = λ (m : List ℕ). change m (cell_for r o) (g (need r f.turnover o)) in
        with_pieces (with_money d (if_money (asset_of x) (there f.money) f.money)) (if_money (asset_of x) f.pieces (there f.pieces))
        ≡ with_positions (asset_of x) d (there (positions (asset_of x) d))
    go Buy = refl
    go Sell = refl
