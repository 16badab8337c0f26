-- Blocking what an order needs and freeing it keep day and book in agreement.
use Prim.Native.Nat.{ℕ, ◌≤◌, ◌<◌}
use native.Mathlib.Omega.{arith}
use mathlib.Core.Path.{◌≡◌}
use mathlib.Core.List.{List, ◌++◌}
use mathlib.Core.Bool.{true}
use borrow.Author.Tests.{leb-true}
use Rattle.market.specs.declared.Order.{Order}
use Rattle.market.specs.declared.Side.{Side}
use Rattle.market.specs.declared.Side.TheVariants.{Buy, Sell}
use Rattle.market.specs.declared.Rules.{Rules}
use Rattle.market.specs.declared.Asset.{Asset}
use Rattle.market.specs.declared.Asset.TheVariants.{Money, Pieces}
use Rattle.market.specs.Day.{Day, Position, columns_of, cell, position, positions}
use Rattle.market.specs.Day.{with_positions, with_waiting}
use Rattle.market.specs.Needs.{asset_of, column_of, need, need_at}
use Rattle.market.specs.Positions.{block, block_for, change, free_for, release, release_for, total}
use Rattle.market.specs.Questions.{covered}
use Rattle.market.specs.Entry.{admitted}
use Rattle.invariant.specs.Standing.{Backed, needs_of}
use Rattle.invariant.proofs.Backed.{column_known, need_blocked}
use Rattle.conservation.specs.Book.{Book, Waiting, balances, with_orders}
use Rattle.conservation.proofs.Balanced.{Balanced, balanced_same}
use Rattle.conservation.proofs.Good.{Agree}

-- an order of a known participant and security; x are the orders that block and do not wait
module _ (v : List Waiting) (b : Book) (d : Day) (o : Order) (hp : o.participant < d.rules.participants)
    (hs : o.security < d.rules.securities) (x : List Order) (backed : Backed x d) where
  abbrev own : ℕ
  own = need d.rules d.turnover o

  -- the position where it blocks becomes f of it, and its total stays
  same_balance : {r : Rules} (f : Position → Position) (z : Side) →
      let at : ℕ = cell o.participant (column_of z d.rules o.security) in
      let l : List ℕ = positions (asset_of z) d in
      total (f (position l at)) ≡ total (position l at) → Agree r b d → (y : Asset)
      → Balanced d.rules (columns_of y d.rules) (positions y (with_positions (asset_of z) d (change l at f))) (balances y b)
  same_balance f Buy same a Money =
      balanced_same (backed.held Money) (a.balanced Money) o.participant _ f hp
      (column_known Buy d.rules o.security backed.rules_ok hs) same
  same_balance f Buy same a Pieces = a.balanced Pieces
  same_balance f Sell same a Money = a.balanced Money
  same_balance f Sell same a Pieces =
      balanced_same (backed.held Pieces) (a.balanced Pieces) o.participant _ f hp
      (column_known Sell d.rules o.security backed.rules_ok hs) same

  -- what o needs is freed
  pub release_agree : {r : Rules} (w' : List Order) → Agree r b d
      → ((y : Asset) (j : ℕ) → need_at y d.rules d.turnover j o ≤ needs_of y d (x ++ d.waiting) j)
      → Agree r (with_orders b v) (with_waiting (release_for d o) w')
  unfolding release_for
  release_agree w' a listed =
      let has = need_blocked d o hp hs x backed listed in
      record {
        rules = a.rules;
        balanced = same_balance (release own) o.side (omega arith) a;
        turnover = a.turnover;
        phase = a.phase;
      }

  -- what o needs is blocked
  pub block_agree : {r : Rules} → Agree r b d → covered d o ≡ true → Agree r (with_orders b v) (admitted d o)
  unfolding admitted block_for covered
  block_agree a covers =
      let has = leb-true own (free_for d o) covers in
      record {
        rules = a.rules;
        balanced = same_balance (block own) o.side (omega arith) a;
        turnover = a.turnover;
        phase = a.phase;
      }
