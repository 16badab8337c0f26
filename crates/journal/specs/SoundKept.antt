-- Soundness is kept: by every act from any sound ledger, and so in every one reached from an accepted opening.
use Rattle.std.specs.Prelude.{ℕ, ◌≤◌, ◌≡◌, List, true, length}
use Rattle.market.specs.declared.Rules.{Rules}
use Rattle.market.specs.Limits.{max_trades}
use Rattle.market.specs.View.{Sized}
use Rattle.market.specs.Answers.{is_done, numbers_of}
use Rattle.market.specs.Ledger.{Ledger, ledger_sound}
use Rattle.market.specs.Acts.{Act, day, new_day, offer, second_part}
use Rattle.market.specs.ActStep.{ActReply, act_step, open_ledger}
use Rattle.conservation.specs.SoundKept.{most_trades}
use Rattle.journal.specs.Statement.{Request, ledger_after}

-- how many trades an act makes at most: an offer meets one counter offer
abbrev pub most_of : Ledger → Act → ℕ
most_of l (day c) = most_trades l.day c
most_of l (offer p m rate term) = 1
most_of l (second_part place) = 0
most_of l (new_day date) = 0

-- what an act on a sound ledger l with list v leaves
pub record ActKeeps (l : Ledger) (v : List ℕ) (a : Act) (o : ActReply) : Type 0 where
  pub sound : ledger_sound o.ledger ≡ true
  pub sized : Sized o.ledger.day
  -- the opening's arguments
  pub rules : o.ledger.day.rules ≡ l.day.rules
  pub few : (numbers_of o.answer).trades ≤ most_of l a
  -- "1,088 numbers (136 trades)" are enough, and the list keeps its length
  pub trades : (numbers_of o.answer).trades ≤ max_trades
  pub list : length o.list ≡ length v

-- the statements
abbrev pub ActKept : Type 0
ActKept = (l : Ledger) → Sized l.day → ledger_sound l ≡ true → (v : List ℕ) (a : Act) → ActKeeps l v a (act_step l v a)

abbrev pub LedgerReached : Type 0
LedgerReached =
    (r : Rules) (date : ℕ) → is_done (open_ledger r date).answer ≡ true → (qs : List Request)
    → ledger_sound (ledger_after (open_ledger r date).ledger qs) ≡ true
