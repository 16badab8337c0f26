-- The book of demand 3 over many days (T-06): that of a trading day, the date and the open deals, fed each act.
use Rattle.std.specs.Prelude.{ℕ, List, [], ◌∷◌, ◌++◌, replicate}
use Rattle.market.specs.declared.Answer.{Answer}
use Rattle.market.specs.declared.Answer.TheVariants.{Done, Refused}
use Rattle.market.specs.declared.Deal.{Deal}
use Rattle.market.specs.declared.Kind.TheVariants as kind
use Rattle.market.specs.declared.Phase.TheVariants.{Open}
use Rattle.market.specs.declared.Rules.{Rules}
use Rattle.market.specs.declared.Ticket.{Ticket}
use Rattle.market.specs.Limits.{max_securities}
use Rattle.market.specs.declared.Asset.{Asset}
use Rattle.market.specs.declared.Asset.TheVariants.{Money, Pieces}
use Rattle.market.specs.Day.{cell, currency_of, no_turnover}
use Rattle.market.specs.TradeList.{Trade}
use Rattle.market.specs.Deals.{deal_at, deals_of, end_deal, money_back, pieces_back}
use Rattle.market.specs.Acts.{Act, day, new_day, offer, second_part}
use Rattle.conservation.specs.Book.{Book, Waiting, add, after_trades, balances, before_trades, empty_book, feed_first_parts}
use Rattle.conservation.specs.Book.{feed_trades, read_trades, sub, waits_as, with_balances, with_orders}

-- what demand 3's book has after each act; the deals are the book's own, and their dates
pub record LedgerBook : Type 0 where
  pub book : Book
  pub date : ℕ
  pub deals : List Deal

-- at first that of a trading day, of the opening's date, without a deal
unfoldable pub empty_ledger : ℕ → LedgerBook
empty_ledger date = record { book = empty_book; date = date; deals = [] }

-- an offer "waits like a kept order", under the answered code
abbrev pub offer_waits : ℕ → ℕ → Ticket → (rate term : ℕ) → Waiting
offer_waits p code m rate term = waits_as p code m.side m.security m.lots (kind.Offer rate term m.price)

-- so much of an asset goes from p to q
abbrev pub passed_on : Asset → Book → (p q column amount : ℕ) → Book
passed_on x b p q column amount =
    let taken : Book = with_balances x b (sub (balances x b) (cell p column) amount) in
    with_balances x taken (add (balances x taken) (cell q column) amount)

-- "an accepted second part moves its pieces and money": pieces from first buyer to first seller, money the other way
unfoldable pub moved_back : Rules → Book → Deal → Book
moved_back r b x =
    passed_on Money (passed_on Pieces b x.buyer x.seller x.security (pieces_back r x))
    x.seller x.buyer (currency_of r x.security) (money_back r x)

-- "a new day sets date, phase, Q and T anew"
unfoldable pub anew : Book → Book
anew b = record {
  money = b.money;
  pieces = b.pieces;
  turnover = replicate max_securities no_turnover;
  phase = Open;
  waiting = b.waiting;
}

-- what an accepted act does to the book: code is the answered one, ts its trades
unfoldable pub acted : Rules → LedgerBook → ℕ → List Trade → Act → LedgerBook
acted r j code ts (day c) = record {
  book = after_trades (feed_trades r (before_trades j.book code c) ts) c;
  date = j.date;
  deals = j.deals;
}
-- "open deals come from offers and first parts (which leave its Q and T alone)"
acted r j code ts (offer p m rate term) = record {
  book = feed_first_parts r (with_orders j.book (j.book.waiting ++ (offer_waits p code m rate term ∷ []))) ts;
  date = j.date;
  deals = j.deals ++ deals_of j.date rate term ts;
}
-- "and ends its deal"
acted r j code ts (second_part place) = record {
  book = moved_back r j.book (deal_at j.deals place);
  date = j.date;
  deals = end_deal j.deals place;
}
acted r j code ts (new_day date) = record { book = anew j.book; date = date; deals = j.deals }

-- "A refused call changes nothing in it"; r is the opening's arguments
abbrev pub feed_act : Rules → LedgerBook → Act → Answer → List ℕ → LedgerBook
feed_act r j a (Refused number at) v = j
feed_act r j a (Done code filled left trades) v = acted r j code (read_trades trades v) a
