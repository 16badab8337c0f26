-- "Sound means" in the parts that the code asks for in turn, and the cells where it adds needs up.
use Rattle.std.specs.Prelude.{ℕ, ◌+◌, ◌<◌, List, ◌≡◌, Bool, true, get_or, length}
use Rattle.market.specs.declared.Side.{Side}
use Rattle.market.specs.declared.Side.TheVariants.{Buy, Sell}
use Rattle.market.specs.Limits.{max_waiting, cells}
use Rattle.market.specs.Tests.{◌=?◌, ◌and◌, ◌≤?◌, all_below, all_of}
use Rattle.market.specs.declared.Asset.{Asset}
use Rattle.market.specs.declared.Asset.TheVariants.{Money, Pieces}
use Rattle.market.specs.Day.{Day, if_money, row, cell, position, turnover_at}
use Rattle.market.specs.Codes.{codes_sound, given, own_rising, rising}
use Rattle.market.specs.Positions.{total_at}
use Rattle.market.specs.Sound.{blocked_sound, counts_sound, needs_at, order_sound, rate_sound, security_sound, totals_sound}
use Rattle.market.specs.Sound.{turnover_sound}

-- counts, table, rate, codes, Q and T: each part is asked where the ones before it hold
unfoldable pub orderly : Day → Bool
orderly d =
    length d.waiting ≤? max_waiting
    and counts_sound d.rules.participants d.rules.currencies d.rules.securities
    and all_below d.rules.securities (λ s. security_sound d.rules.currencies (row d.rules s))
    and rate_sound d.rules.rate
    and codes_sound d
    and all_below d.rules.securities (λ s. turnover_sound (given d) (turnover_at d.turnover s))

-- the waiting orders of an orderly day
unfoldable pub waiting_sound : Day → Bool
waiting_sound d = all_of (order_sound d) d.waiting and rising 0 (given d) d.waiting and own_rising d

-- the positions in an asset
unfoldable pub asset_sound : Asset → Day → Bool
asset_sound x d = blocked_sound x d and totals_sound x d

-- in cell j what is blocked is what is needed; needs stand from cell `first` of their list on
abbrev pub covered_at : ℕ → List ℕ → List ℕ → ℕ → Bool
covered_at first l needs j = (position l j).blocked =? get_or needs (first + j) 0

-- one column of positions: what is blocked, and the total
unfoldable pub column_sound : Asset → ℕ → ℕ → ℕ → List ℕ → List ℕ → ℕ → Bool
column_sound x participants limit first l needs c =
    all_below participants (λ p. covered_at first l needs (cell p c)) and total_at x participants l c ≤? limit

-- needs stand in one list: money at its cell, pieces behind all of these
abbrev pub need_cell : Asset → ℕ → ℕ
need_cell x j = if_money x 0 cells + j

-- where an order's need is added
abbrev pub need_cell_for : Side → ℕ → ℕ → ℕ → ℕ
need_cell_for Buy participant currency security = need_cell Money (cell participant currency)
need_cell_for Sell participant currency security = need_cell Pieces (cell participant security)

-- the list holds what the waiting orders need of each asset in each cell
abbrev pub HoldsNeeds : Day → List ℕ → Type 0
HoldsNeeds d l = (x : Asset) (j : ℕ) → j < cells → get_or l (need_cell x j) 0 ≡ needs_at x d j

-- the answer is whether the waiting orders are sound; where they are, the list holds what they need
pub record Checked (d : Day) (answer : Bool) (needs : List ℕ) : Type 0 where
  pub right : answer ≡ waiting_sound d
  pub added : answer ≡ true → HoldsNeeds d needs
