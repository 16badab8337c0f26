-- Demand 3: one statement about every list of acts from an accepted opening, over as many days as it has.
use Rattle.std.specs.Prelude.{ℕ, ◌≡◌, List, [], ◌∷◌, true, take}
use Rattle.market.specs.declared.Rules.{Rules}
use Rattle.market.specs.declared.Ticket.{Ticket}
use Rattle.market.specs.Answers.{is_done}
use Rattle.market.specs.Ledger.{Ledger}
use Rattle.market.specs.Acts.{Act, linked}
use Rattle.market.specs.ActStep.{ActReply, act_step, open_ledger}
use Rattle.conservation.specs.Statement.{Agrees, WholeBy}
use Rattle.journal.specs.LedgerBook.{LedgerBook, empty_ledger, feed_act}

-- an act and the list that it is lent
pub record Request : Type 0 where
  pub act : Act
  pub list : List ℕ

-- what the definition answers to it
abbrev pub reply : Ledger → Request → ActReply
reply l q = act_step l q.list q.act

-- the ledger after the list: the first act gets that of the opening, each later one that handed back before it
unfoldable pub ledger_after : Ledger → List Request → Ledger
ledger_after l [] = l
ledger_after l (q ∷ qs) = ledger_after (reply l q).ledger qs

-- the book after the list, fed each act's arguments, answer and trades, and "nothing from the state"
unfoldable pub book_after : Rules → LedgerBook → Ledger → List Request → LedgerBook
book_after r j l [] = j
book_after r j l (q ∷ qs) =
    book_after r (feed_act r j q.act (reply l q).answer (reply l q).list) (reply l q).ledger qs

-- the book j and the ledger l after the list; r is the opening's arguments
pub record LedgerAgrees (r : Rules) (j : LedgerBook) (l : Ledger) : Type 0 where
  pub day : Agrees r j.book l.day
  pub date : l.date ≡ j.date
  pub deals : l.deals ≡ j.deals

-- an act on ledger l with list v, if it is a group, filled every member whole or changed nothing
abbrev pub Whole : Ledger → List ℕ → Act → ActReply → Type 0
Whole l v a o = (p count : ℕ) (ms : List Ticket) → a ≡ linked p count ms
    → WholeBy l v p (take count ms) o.answer o.ledger o.list

-- so of every act of the list
abbrev pub AllWhole : Ledger → List Request → Type 0
AllWhole l [] = Unit {0}
AllWhole l (q ∷ qs) = Whole l q.list q.act (reply l q) × AllWhole (reply l q).ledger qs

-- the statement: for any arguments of an accepted opening and any list of acts, refused ones and new days included
pub record Holds (r : Rules) (date : ℕ) (qs : List Request) : Type 0 where
  pub agrees :
      LedgerAgrees r (book_after r (empty_ledger date) (open_ledger r date).ledger qs)
      (ledger_after (open_ledger r date).ledger qs)
  pub groups : AllWhole (open_ledger r date).ledger qs

abbrev pub Demand3 : Type 0
Demand3 = (r : Rules) (date : ℕ) → is_done (open_ledger r date).answer ≡ true → (qs : List Request) → Holds r date qs
