-- What holds of a sound day, as facts, and what holds while an entry is matched. Nothing here knows demand 3's book.
use Rattle.std.specs.Prelude.{ℕ, ◌+◌, ◌≤◌, ◌<◌, ◌≡◌, List, [], ◌∷◌, ◌++◌, true, length}
use Rattle.market.specs.declared.Order.{Order}
use Rattle.market.specs.declared.Phase.TheVariants.{Open}
use Rattle.market.specs.Limits.{columns, max_lots, max_participants, max_securities, max_waiting, position_numbers}
use Rattle.market.specs.Tests.{sum_of}
use Rattle.market.specs.declared.Rules.{Rules}
use Rattle.market.specs.declared.Asset.{Asset}
use Rattle.market.specs.Day.{Day, columns_of, no_turnover, row, cell, position, positions, total_limit, turnover_at}
use Rattle.market.specs.Codes.{arrival_of, code_left, codes_of, given}
use Rattle.market.specs.Needs.{need_at, only, pieces_of}
use Rattle.market.specs.Positions.{total_at}
use Rattle.market.specs.Sound.{kind_sound}
use Rattle.market.specs.Questions.{covered, has_room}
use Rattle.market.proofs.Lists.{All}
use Rattle.market.proofs.Known.{KeptOk, OrderOk, RulesOk}
use Rattle.market.proofs.Turnovers.{TurnoverOk}
use Rattle.market.proofs.Codes.{CodesOk, Numbered}

-- in the asset's columns of m, blocked amounts are the needs, and totals are within the limit
pub record Held (x : Asset) (r : Rules) (m : List ℕ) (need : ℕ → ℕ) : Type 0 where
  pub wide : columns_of x r ≤ columns
  pub rows : r.participants ≤ max_participants
  pub positions : length m ≡ position_numbers
  pub blocked : (p c : ℕ) → p < r.participants → c < columns_of x r
      → (position m (cell p c)).blocked ≡ need (cell p c)
  pub topped : (c : ℕ) → c < columns_of x r → total_at x r.participants m c ≤ total_limit x

-- what these orders need of an asset at place j
abbrev pub needs_of : Asset → Day → List Order → ℕ → ℕ
needs_of x d w j = sum_of (need_at x d.rules d.turnover j) w

-- the needs of the waiting orders and of those pending (the entry while it is matched) are blocked
pub record Backed (pending : List Order) (d : Day) : Type 0 where
  pub rules_ok : RulesOk d.rules
  pub held : (x : Asset)
      → Held x d.rules (positions x d) (needs_of x d (pending ++ d.waiting))

-- an order's kind goes with the phase
abbrev pub KindOk : Day → Order → Type 0
KindOk d o =
    kind_sound d.phase (row d.rules o.security) (turnover_at d.turnover o.security) o.kind ≡ true

-- an order may wait while open: it is kept, or an offer, at a good price; no turnover is asked
abbrev pub PricedOk : Rules → Order → Type 0
PricedOk r o = kind_sound Open (row r o.security) no_turnover o.kind ≡ true

-- an order is kept, at a good price, as every entry is that is matched
abbrev pub EntryOk : Rules → Order → Type 0
EntryOk r o = KeptOk r o.security o.kind

-- Q and T of each security, with room for so many pieces more
abbrev pub Turnovers : Day → (ℕ → ℕ) → Type 0
Turnovers d more =
    (s : ℕ) → s < d.rules.securities → TurnoverOk (given d) (more s) (turnover_at d.turnover s)

-- between calls
pub record Standing (d : Day) : Type 0 where
  pub backed : Backed [] d
  pub orders : All (OrderOk d.rules) d.waiting
  pub codes : Numbered (given d) (codes_of d) d.waiting
  pub kinds : All (KindOk d) d.waiting
  pub limit : CodesOk d
  pub room : length d.waiting ≤ max_waiting
  pub turnover_length : length d.turnover ≡ max_securities
  pub turnovers : Turnovers d (λ s. 0)

-- an order that passed its questions and only waits: a closing order, or a kept one while collecting
pub record Placeable (d : Day) (o : Order) : Type 0 where
  pub order : OrderOk d.rules o
  pub kind : KindOk d o
  pub room : has_room d ≡ true
  pub left : code_left d o.participant ≡ true
  pub covers : covered d o ≡ true
  pub arrival : arrival_of o ≡ given d + 1
  pub code : o.code ≡ codes_of d o.participant + 1

-- between two trades of an entry e: its need is blocked, it does not wait yet, and Q and T have room for it
pub record InFlight (d : Day) (e : Order) : Type 0 where
  pub backed : Backed (e ∷ []) d
  pub orders : All (OrderOk d.rules) d.waiting
  pub codes : Numbered (given d) (codes_of d) (d.waiting ++ (e ∷ []))
  pub phase : d.phase ≡ Open
  pub participant : e.participant < d.rules.participants
  pub security : e.security < d.rules.securities
  pub top : e.lots ≤ max_lots
  pub priced : All (PricedOk d.rules) d.waiting
  pub entry_priced : EntryOk d.rules e
  pub limit : CodesOk d
  pub room : length d.waiting ≤ max_waiting
  pub turnover_length : length d.turnover ≡ max_securities
  pub turnovers : Turnovers d (λ s. only e.security s (pieces_of (row d.rules e.security) e.lots))
