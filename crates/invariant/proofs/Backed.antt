-- Blocking what an order needs and freeing it keep blocked amounts equal to needs.
use Prim.Native.Nat.{ℕ, ◌+◌, ◌≤◌, ◌<◌}
use native.Mathlib.Omega.{arith}
use mathlib.Core.Path.{◌≡◌}
use mathlib.Core.List.{List, [], ◌∷◌, ◌++◌}
use mathlib.Core.Bool.{true}
use borrow.Author.Tests.{leb-true}
use Rattle.market.specs.declared.Order.{Order}
use Rattle.market.specs.declared.Side.{Side}
use Rattle.market.specs.declared.Side.TheVariants.{Buy, Sell}
use Rattle.market.specs.declared.Rules.{Rules}
use Rattle.market.specs.declared.Asset.{Asset}
use Rattle.market.specs.declared.Asset.TheVariants.{Money, Pieces}
use Rattle.market.specs.Day.{Day, Position, columns_of, cell, position, positions}
use Rattle.market.specs.Day.{total_limit, with_positions, with_waiting}
use Rattle.market.specs.Codes.{give_code}
use Rattle.market.specs.Needs.{asset_of, column_of, need, need_at, of_asset, only, cell_for}
use Rattle.market.specs.Positions.{block, block_for, change, free_for, release, release_for, total, total_at}
use Rattle.market.specs.Questions.{covered}
use Rattle.market.specs.Entry.{admitted}
use Rattle.market.proofs.Needs.{asset_nothing, need_own}
use Rattle.market.proofs.Known.{RulesOk}
use Rattle.invariant.specs.Standing.{Backed, Held, Standing, needs_of}
use Rattle.invariant.proofs.Held.{held_block, held_move, held_needs}

-- the column where an order blocks is known
pub column_known : (side : Side) (r : Rules) (s : ℕ) → RulesOk r → s < r.securities
    → column_of side r s < columns_of (asset_of side) r
column_known Buy r s ok h = ok.currency s h
column_known Sell r s ok h = h

-- other pending and waiting lists with the same needs
pub relist : (x x' w' : List Order) (d : Day) → Backed x d
    → ((y : Asset) (j : ℕ) → needs_of y d (x' ++ w') j ≡ needs_of y d (x ++ d.waiting) j)
    → Backed x' (with_waiting d w')
relist x x' w' d a same = record { rules_ok = a.rules_ok; held = λ y. held_needs (a.held y) _ (same y) }

-- the position where an order of this side blocks becomes f of it, its blocked part less by less and more by more
module _ (x x' : List Order) (d : Day) (backed : Backed x d) (w' : List Order) (side : Side) (p s : ℕ)
    (hp : p < d.rules.participants) (hs : s < d.rules.securities)
    (f : Position → Position) (less more : ℕ) where
  abbrev at : ℕ
  at = cell p (column_of side d.rules s)

  abbrev here : Position
  here = position (positions (asset_of side) d) at

  reblock : total (f here) ≡ total here → (f here).blocked + less ≡ here.blocked + more
      → ((y : Asset) (j : ℕ)
      → needs_of y d (x' ++ w') j + of_asset y side (only at j less)
      ≡ needs_of y d (x ++ d.waiting) j + of_asset y side (only at j more))
      → Backed x' (with_waiting (with_positions (asset_of side) d (change (positions (asset_of side) d) at f)) w')
  reblock same moved needs = record { rules_ok = backed.rules_ok; held = held side hc same moved needs }
    where
      hc : column_of side d.rules s < columns_of (asset_of side) d.rules
      hc = column_known side d.rules s backed.rules_ok hs

      held : (z : Side) →
          let i : ℕ = cell p (column_of z d.rules s) in
          let l : Position = position (positions (asset_of z) d) i in
          column_of z d.rules s < columns_of (asset_of z) d.rules
          → total (f l) ≡ total l → (f l).blocked + less ≡ l.blocked + more
          → ((y : Asset) (j : ℕ)
          → needs_of y d (x' ++ w') j + of_asset y z (only i j less)
          ≡ needs_of y d (x ++ d.waiting) j + of_asset y z (only i j more))
          → (y : Asset)
          → Held y d.rules
          (positions y (with_waiting (with_positions (asset_of z) d (change (positions (asset_of z) d) i f)) w'))
          (needs_of y d (x' ++ w'))
      held Buy h a m n Money = held_block (backed.held Money) p _ f less more _ hp h a m (n Money)
      held Buy h a m n Pieces = held_needs (backed.held Pieces) _ (λ j. omega (arith, n Pieces j))
      held Sell h a m n Money = held_needs (backed.held Money) _ (λ j. omega (arith, n Money j))
      held Sell h a m n Pieces = held_block (backed.held Pieces) p _ f less more _ hp h a m (n Pieces)

-- an order of a known participant and security
module _ (d : Day) (o : Order) (hp : o.participant < d.rules.participants)
    (hs : o.security < d.rules.securities) where
  abbrev own : ℕ
  own = need d.rules d.turnover o

  -- an order among those that block has its need blocked
  pub need_blocked : (x : List Order) → Backed x d
      → ((y : Asset) (j : ℕ) → need_at y d.rules d.turnover j o ≤ needs_of y d (x ++ d.waiting) j)
      → own ≤ (position (positions (asset_of o.side) d) (cell_for d.rules o)).blocked
  need_blocked x backed listed =
      let z = o.side in
      let at = cell_for d.rules o in
      omega (
        arith,
        listed (asset_of z) at,
        need_own d.rules d.turnover o,
        (backed.held (asset_of z)).blocked o.participant (column_of z d.rules o.security) hp
            (column_known z d.rules o.security backed.rules_ok hs),
      )

  -- what o needs is freed; pending and waiting orders are x and the day's before, x' and w' after
  pub release_backed : (x x' w' : List Order) → Backed x d
      → ((y : Asset) (j : ℕ)
      → needs_of y d (x' ++ w') j + need_at y d.rules d.turnover j o ≡ needs_of y d (x ++ d.waiting) j)
      → Backed x' (with_waiting (release_for d o) w')
  unfolding release_for need_at
  release_backed x x' w' backed needs =
      let z = o.side in
      let at = cell_for d.rules o in
      let has = need_blocked x backed (λ y j. omega (arith, needs y j)) in
      reblock x x' d backed w' z o.participant o.security hp hs (release own) own 0 (omega arith) (omega arith)
      (λ y j. omega (arith, needs y j, asset_nothing y z at j))

  coded : Backed [] d → Backed [] (give_code d o.participant)
  coded a = record { rules_ok = a.rules_ok; held = a.held }

  -- what o needs is blocked, and o is pending
  pub block_backed : Backed [] d → covered d o ≡ true → Backed (o ∷ []) (admitted d o)
  unfolding admitted block_for covered need_at
  block_backed backed covers =
      let has = leb-true own (free_for d o) covers in
      reblock [] (o ∷ []) (give_code d o.participant) (coded backed) d.waiting o.side o.participant o.security
      hp hs (block own) 0 own (omega arith) (omega arith)
      (λ y j. omega (arith, asset_nothing y o.side (cell_for d.rules o) j))

-- at a known place the free amount of an asset moves, and totals stay within the limit
pub standing_moved : (x : Asset) (d : Day) (p c : ℕ) (f : Position → Position) → Standing d → p < d.rules.participants
    → c < columns_of x d.rules →
    let m : List ℕ = change (positions x d) (cell p c) f in
    (f (position (positions x d) (cell p c))).blocked ≡ (position (positions x d) (cell p c)).blocked
    → ((k : ℕ) → k < columns_of x d.rules → total_at x d.rules.participants m k ≤ total_limit x)
    → Standing (with_positions x d m)
standing_moved x d p c f g hp hc same top = record {
  backed = record { rules_ok = g.backed.rules_ok; held = each x hc same top };
  orders = g.orders;
  codes = g.codes;
  kinds = g.kinds;
  limit = g.limit;
  room = g.room;
  turnover_length = g.turnover_length;
  turnovers = g.turnovers;
}
  where
    each : (x : Asset) → c < columns_of x d.rules →
        let m : List ℕ = change (positions x d) (cell p c) f in
        (f (position (positions x d) (cell p c))).blocked ≡ (position (positions x d) (cell p c)).blocked
        → ((k : ℕ) → k < columns_of x d.rules → total_at x d.rules.participants m k ≤ total_limit x) → (y : Asset)
        → Held y d.rules (positions y (with_positions x d m))
        (needs_of y d d.waiting)
    each Money hc same top Money = held_move (g.backed.held Money) p c f hp hc same top
    each Money hc same top Pieces = g.backed.held Pieces
    each Pieces hc same top Money = g.backed.held Money
    each Pieces hc same top Pieces = held_move (g.backed.held Pieces) p c f hp hc same top
