-- A trade of an entry keeps book and day in agreement.
use Prim.Native.Nat.{ℕ, ◌+◌, ◌-◌, ◌≤◌, ◌<◌}
use native.Mathlib.Omega.{arith}
use mathlib.Core.Path.{◌≡◌, refl, ap, sym, ◌∙◌}
use mathlib.Core.List.{List, [], ◌∷◌, ◌++◌}
use mathlib.Core.Bool.{true}
use lib.ListN.{length}
use borrow.Author.Tests.{ne_eqb}
use Rattle.market.specs.declared.Order.{Order}
use Rattle.market.specs.declared.Side.{Side}
use Rattle.market.specs.declared.Side.TheVariants.{Buy, Sell}
use Rattle.market.specs.declared.TimeInForce.{TimeInForce}
use Rattle.market.specs.declared.TimeInForce.TheVariants.{FillOrKill, ImmediateOrCancel, Kept}
use Rattle.market.specs.Limits.{max_waiting}
use Rattle.market.specs.declared.Rules.{Rules}
use Rattle.market.specs.Day.{Day, order_at, row, with_lots}
use Rattle.market.specs.Codes.{codes_of, given}
use Rattle.market.specs.Needs.{value_for}
use Rattle.market.specs.Positions.{counted, settle}
use Rattle.market.specs.Waiting.{take_off}
use Rattle.market.specs.TradeList.{Trade, trade_of}
use Rattle.market.specs.Matching.{buy_of, found, if_buy, lots_at, opposite, reaches, sell_of, traded}
use Rattle.market.specs.Entry.{remainder}
use Rattle.market.proofs.Logic.{never}
use Rattle.market.proofs.Needs.{value_added}
use Rattle.market.proofs.Waiting.{Apart, Fresh, apart_drop, apart_last, fresh_take_off, length_take_off_le}
use Rattle.market.proofs.Codes.{numbered_apart}
use Rattle.market.proofs.Matching.{Chosen, Fit, Uncrossed, uncrossed_take_off}
use Rattle.conservation.specs.Book.{Book, Waiting, added_to, enters, feed_trade, take_lots, trade_moved}
use Rattle.conservation.specs.Statement.{all_shown, shown}
use Rattle.conservation.proofs.Listed.{none_taken, take_lots_at, take_lots_last, take_lots_past}
use Rattle.invariant.specs.Standing.{InFlight}
use Rattle.invariant.proofs.Flight.{buyer_pays, fitting, flight_next, needs_left, ok_e, ok_o}
use Rattle.conservation.proofs.Good.{Agree}
use Rattle.conservation.proofs.Trade.{trade_agree}

-- the part of an entry that waits in the book
abbrev pub waits : TimeInForce → Order → List Order
waits Kept e = remainder e
waits ImmediateOrCancel e = []
waits FillOrKill e = []

-- between two trades of an entry e that enters as k
pub record Matching (U : Type 0) (k : TimeInForce) (r : Rules) (b : Book) (d : Day) (e : Order) : Type 0 where
  pub flight : InFlight d e
  pub agree : Agree r b d
  pub waiting : b.waiting ≡ all_shown (d.waiting ++ waits k e)
  pub uncrossed : U → Uncrossed d.waiting
  pub room : length d.waiting + length (enters k (shown e)) ≤ max_waiting

-- lots off the entry, in the book's list
takes_entry : (k : TimeInForce) (n : ℕ) (w : List Order) (e : Order) → Fresh e.participant e.code w
    → 0 < e.lots
    → take_lots e.participant e.code n (all_shown (w ++ waits k e)) ≡ all_shown
    (w ++ waits k (with_lots e (e.lots - n)))
takes_entry Kept n w e f l = take_lots_past e.participant e.code n w (remainder e)
    (remainder (with_lots e (e.lots - n))) f (rw (ne_eqb e.lots 0 (λ z. omega arith)) (take_lots_last n e))
takes_entry ImmediateOrCancel n w e f l =
    take_lots_past e.participant e.code n w [] [] f (none_taken e.participant e.code n)
takes_entry FillOrKill n w e f l =
    take_lots_past e.participant e.code n w [] [] f (none_taken e.participant e.code n)

same_enters : (k : TimeInForce) (e : Order) (n : ℕ)
    → length (enters k (shown (with_lots e n))) ≡ length (enters k (shown e))
same_enters Kept e n = refl
same_enters ImmediateOrCancel e n = refl
same_enters FillOrKill e n = refl

-- a trade of the entry e with the best counter order, which waits at place i, at its price p
module _ {U : Type 0} {r : Rules} (k : TimeInForce) (b : Book) (d : Day) (e : Order) (m : Matching U k r b d e)
    (i p n : ℕ) (some : 0 < e.lots) (chosen : Chosen e d.waiting (found i p)) (ne : n ≤ e.lots)
    (no : n ≤ lots_at d i) where
  abbrev o : Order
  o = order_at d.waiting i

  abbrev rest : Order
  rest = with_lots e (e.lots - n)

  abbrev left : List Order
  left = take_off d.waiting i n

  fits : Fit e o
  fits = fitting d e m.flight i p n some chosen ne no

  keys : Apart (d.waiting ++ (e ∷ []))
  keys = numbered_apart (given d) (codes_of d) (d.waiting ++ (e ∷ [])) m.flight.codes

  fresh : Fresh e.participant e.code d.waiting
  fresh = apart_last d.waiting e keys

  apart : Apart d.waiting
  apart = apart_drop d.waiting (e ∷ []) keys

  -- buyer and seller, by the side x of the entry and y of the waiting order
  abbrev trade : Side → Trade
  trade x = trade_of d.rules (if_buy x e o) (if_buy x o e) p n

  sides : (x y : Side) → e.side ≡ x → o.side ≡ y → opposite x y ≡ true → reaches x e.kind o.kind ≡ true
      → Agree r
      (trade_moved r b (counted d.rules d.turnover (if_buy x e o).security p n) (trade x))
      (traded d (if_buy x e o) (if_buy x o e) i p n)
  unfolding traded
  sides Buy Buy ex oy q l = never q
  sides Sell Sell ex oy q l = never q
  sides Buy Sell ex oy q l =
      trade_agree (e ∷ []) left b d e o p n _ (counted d.rules d.turnover e.security p n) m.agree
      m.flight.backed (ok_e d e m.flight i p n some chosen ne no) (ok_o d e m.flight i p n some chosen ne no) ex oy
      (sym fits.security) (buyer_pays d e m.flight i p n some chosen ne no Buy l).0 ne no
      (λ y j. omega (arith, needs_left d e m.flight i p n some chosen ne no y j)) refl
  sides Sell Buy ex oy q l =
      trade_agree (e ∷ []) left b d o e p n _ (counted d.rules d.turnover o.security p n) m.agree
      m.flight.backed (ok_o d e m.flight i p n some chosen ne no) (ok_e d e m.flight i p n some chosen ne no) oy ex
      fits.security (buyer_pays d e m.flight i p n some chosen ne no Sell l).0 no ne
      (λ y j. omega (arith, needs_left d e m.flight i p n some chosen ne no y j)) refl

  -- the book's list after the trade
  listed : (x : Side)
      → take_lots (if_buy x o e).participant (if_buy x o e).code n
      (take_lots (if_buy x e o).participant (if_buy x e o).code n b.waiting) ≡ all_shown (left ++ waits k rest)
  listed Buy =
      ap (λ (y : List Waiting). take_lots o.participant o.code n (take_lots e.participant e.code n y))
      m.waiting
      ∙ ap (take_lots o.participant o.code n) (takes_entry k n d.waiting e fresh some)
      ∙ take_lots_at n d.waiting (waits k rest) i apart chosen.0
  listed Sell =
      ap (λ (y : List Waiting). take_lots e.participant e.code n (take_lots o.participant o.code n y))
      m.waiting
      ∙ ap (take_lots e.participant e.code n) (take_lots_at n d.waiting (waits k e) i apart chosen.0)
      ∙ takes_entry k n left e (fresh_take_off e.participant e.code d.waiting i n fresh) some

  -- what the trade adds to the book's T, it adds to the day's
  added : added_to (row d.rules (buy_of e o).security) (trade e.side)
      ≡ value_for (row d.rules (buy_of e o).security) p n
  added = value_added (row d.rules (buy_of e o).security) p n

  -- while open the book counts the trade as the day does
  counts : trade_moved r b (counted d.rules d.turnover (buy_of e o).security p n) (trade e.side)
      ≡ feed_trade r b (trade e.side)
  unfolding feed_trade counted
  counts = rw (m.agree.rules, m.agree.phase, m.agree.turnover, m.flight.phase, added)

  pub next_trade : Matching U k r (feed_trade r b (trade e.side)) (traded d (buy_of e o) (sell_of e o) i p n) rest
  unfolding traded settle counted
  next_trade = rw (← counts)
      (record {
        flight = flight_next d e m.flight i p n some chosen ne no;
        agree = sides e.side o.side refl refl fits.side fits.price;
        waiting = listed e.side;
        uncrossed = λ u. uncrossed_take_off d.waiting i n (m.uncrossed u);
        room =
            omega (arith, length_take_off_le d.waiting i n chosen.0, m.room, same_enters k e (e.lots - n));
      })
