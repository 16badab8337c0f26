-- Demand 3 over States: any run of functions that meet their public contracts.
use Rattle.std.specs.Prelude.{ℕ, ◌≡◌, List, [], ◌∷◌, true}
use Rattle.market.specs.declared.Outcome.{Outcome}
use Rattle.market.specs.declared.State.{State}
use Rattle.market.specs.declared.Rules.{Rules}
use Rattle.market.specs.Answers.{is_done}
use Rattle.market.specs.Ledger.{whole}
use Rattle.market.specs.Acts.{Act}
use Rattle.market.specs.ActStep.{ActReply}
use Rattle.market.specs.Contract.{Does, Opens}
use Rattle.journal.specs.LedgerBook.{LedgerBook, empty_ledger, feed_act}
use Rattle.journal.specs.Statement.{LedgerAgrees, Whole}

-- an act, the list that it was lent, what it handed back, and the list that it left
pub record Served : Type 0 where
  pub act : Act
  pub lent : List ℕ
  pub outcome : Outcome
  pub list : List ℕ

-- each act met its contract on the State handed back before it
abbrev pub Chain : State → List Served → Type 0
Chain s [] = Unit {0}
Chain s (x ∷ xs) = Does s x.lent x.act x.outcome x.list × Chain x.outcome.state xs

-- the State after the last of them
abbrev pub last_state : State → List Served → State
last_state s [] = s
last_state s (x ∷ xs) = last_state x.outcome.state xs

-- the book, fed with nothing from the State
unfoldable pub book_served : Rules → LedgerBook → List Served → LedgerBook
book_served r j [] = j
book_served r j (x ∷ xs) = book_served r (feed_act r j x.act x.outcome.answer x.list) xs

-- what was handed back, as far as it is read
abbrev pub reply_of : Served → ActReply
reply_of x = record { answer = x.outcome.answer; ledger = whole x.outcome.state; list = x.list }

-- each linked group filled every member whole or changed nothing
abbrev pub AllServedWhole : State → List Served → Type 0
AllServedWhole s [] = Unit {0}
AllServedWhole s (x ∷ xs) =
    Whole (whole s) x.lent x.act (reply_of x) × AllServedWhole x.outcome.state xs

-- what holds after acts served from the State s of an opening with these arguments
pub record ServedHolds (r : Rules) (date : ℕ) (s : State) (xs : List Served) : Type 0 where
  pub agrees : LedgerAgrees r (book_served r (empty_ledger date) xs) (whole (last_state s xs))
  pub groups : AllServedWhole s xs

-- the statement: for any opening and any acts that meet their contracts, each on the State handed back before it
abbrev pub Demand3OfStates : Type 0
Demand3OfStates =
    (r : Rules) (date : ℕ) (o : Outcome) → Opens r date o → is_done o.answer ≡ true
    → (xs : List Served) → Chain o.state xs → ServedHolds r date o.state xs
