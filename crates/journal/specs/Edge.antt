-- The book over two days, computed: "Balances over many days include both parts" (T-06). The acts are those of market's
-- LedgerEdge: a trade of a lot, a deal of 36,500 for a day, and its second part of 36,501 on the next.
use Rattle.std.specs.Prelude.{ℕ, ◌≡◌, refl, List, [], ◌∷◌, ◌++◌}
use Rattle.market.specs.declared.Phase.TheVariants.{Open}
use Rattle.market.specs.declared.Rules.{Rules}
use Rattle.market.specs.declared.TimeInForce.TheVariants.{Kept}
use Rattle.market.specs.Limits.{market}
use Rattle.market.specs.declared.Asset.TheVariants.{Money, Pieces}
use Rattle.market.specs.Day.{cell, no_turnover, turnover_at}
use Rattle.market.specs.Acts.{Act, end_session, increase, new_day, offer, order, second_part, start_closing}
use Rattle.market.specs.ActStep.{open_ledger}
use Rattle.market.specs.Edge.{lent}
use Rattle.market.specs.TariffEdge.{tariff_rules}
use Rattle.market.specs.LedgerEdge.{after_acts, buys, sells, the_deal}
use Rattle.conservation.specs.Book.{Balance, after_trades, balance, before_trades, empty_book, feed_first_parts, feed_trade, feed_trades}
use Rattle.conservation.specs.Book.{is_order, read_trades, take_lots}
use Rattle.journal.specs.LedgerBook.{LedgerBook, acted, anew, empty_ledger, moved_back, offer_waits}
use Rattle.journal.specs.Statement.{Request, book_after}

-- each of these acts is lent 1,088 numbers
abbrev pub requests : List Act → List Request
requests [] = []
requests (a ∷ rest) = record { act = a; list = lent } ∷ requests rest

-- the first day up to the first offer, to the first part, and the second day up to the second part
abbrev pub offer_acts : List Act
offer_acts =
    increase Money 0 0 40101 ∷ increase Pieces 1 0 4000 ∷ order 1 (sells 10 1) Kept ∷ order 0 (buys 10 1) Kept
    ∷ offer 1 (sells 10 365) 50 1 ∷ []

abbrev pub first_acts : List Act
first_acts = offer_acts ++ (offer 0 (buys 10 365) 50 1 ∷ [])

abbrev pub both_acts : List Act
both_acts = first_acts ++ (start_closing ∷ end_session ∷ new_day 1096 ∷ increase Money 1 0 267 ∷ second_part 1 ∷ [])

-- the book after such acts from an opening on day 1095
unfoldable pub booked : List Act → LedgerBook
unfolding after_acts empty_book is_order take_lots feed_trade feed_trades feed_first_parts before_trades after_trades read_trades
    empty_ledger moved_back anew acted book_after
booked acts =
    let r : Rules = tariff_rules 10 5 1000 in
    book_after r (empty_ledger 1095) (open_ledger r 1095).ledger (requests acts)

abbrev pub money_of : LedgerBook → ℕ → Balance
money_of j p = balance j.book.money (cell p 0)

abbrev pub pieces_of : LedgerBook → ℕ → Balance
pieces_of j p = balance j.book.pieces (cell p 0)

-- the cases, a field each
pub record JournalEdge : Type 0 where
  -- "an offer waits like a kept order", under its own code
  pub waits : (booked offer_acts).book.waiting ≡ offer_waits 1 2 (sells 10 365) 50 1 ∷ []
  -- the first part: 36,500 and a fee of 365 go out, after 100 and 1; the deal comes from offer and trade
  pub paid : money_of (booked first_acts) 0 ≡ record { into = 40101; out = 36966 }
  pub opened : (booked first_acts).deals ≡ the_deal ∷ []
  pub counted : turnover_at (booked first_acts).book.turnover 0 ≡ record { pieces = 10; value = 100 }
  -- both parts: 36,501 come back to the first buyer, 3,650 pieces to the first seller, and no fee is paid for it
  pub repaid : money_of (booked both_acts) 0 ≡ record { into = 76602; out = 36966 }
  pub owed : money_of (booked both_acts) 1 ≡ record { into = 36867; out = 36867 }
  pub given : pieces_of (booked both_acts) 0 ≡ record { into = 3660; out = 3650 }
  pub returned : pieces_of (booked both_acts) 1 ≡ record { into = 7650; out = 3660 }
  pub account : money_of (booked both_acts) market ≡ record { into = 732; out = 0 }
  pub ended : (booked both_acts).deals ≡ []
  -- "a new day sets date, phase, Q and T anew"
  pub date : (booked both_acts).date ≡ 1096
  pub phase : (booked both_acts).book.phase ≡ Open
  pub uncounted : turnover_at (booked both_acts).book.turnover 0 ≡ no_turnover

-- all of them hold
pub journal_edge : JournalEdge
unfolding booked
journal_edge = record {
  waits = refl;
  paid = refl;
  opened = refl;
  counted = refl;
  repaid = refl;
  owed = refl;
  given = refl;
  returned = refl;
  account = refl;
  ended = refl;
  date = refl;
  phase = refl;
  uncounted = refl;
}
