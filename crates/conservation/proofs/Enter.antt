-- An accepted order keeps Good.
use Prim.Native.Nat.{ℕ, ◌+◌, ◌≤◌, ◌<◌, min}
use native.Mathlib.Omega.{arith}
use mathlib.Core.Path.{◌≡◌, refl, ap, sym, ◌∙◌, subst}
use mathlib.Core.List.{List, [], ◌∷◌, ◌++◌, append-nil}
use mathlib.Core.Bool.{Bool, true, false, cond}
use lib.ListN.{length}
use borrow.Author.Tests.{eqb-false, ne_eqb, ltb-true}
use Rattle.market.specs.declared.Ticket.{Ticket}
use Rattle.market.specs.declared.Access.{Access}
use Rattle.market.specs.declared.Order.{Order}
use Rattle.market.specs.declared.Phase.TheVariants.{Open}
use Rattle.market.specs.declared.Side.{Side}
use Rattle.market.specs.declared.TimeInForce.{TimeInForce}
use Rattle.market.specs.declared.TimeInForce.TheVariants.{FillOrKill, ImmediateOrCancel, Kept}
use Rattle.market.specs.Limits.{max_lots, max_waiting}
use Rattle.market.specs.Tests.{◌=?◌, sum_of}
use Rattle.market.specs.declared.Rules.{Rules}
use Rattle.market.specs.Day.{Day}
use Rattle.market.specs.Codes.{codes_of}
use Rattle.market.specs.Positions.{block_for, release_for}
use Rattle.market.specs.Calls.{entry_of, order}
use Rattle.market.specs.Questions.{first_no, order_questions, room_for}
use Rattle.market.specs.Matching.{Filled, fill, fits, fitting}
use Rattle.market.specs.Entry.{admitted, finished, left_waiting, remainder}
use Rattle.market.proofs.Logic.{within_low}
use Rattle.market.proofs.Lists.{All}
use Rattle.market.proofs.Questions.{all_yes, yes}
use Rattle.market.proofs.Waiting.{Differs, Fresh}
use Rattle.market.proofs.Codes.{own_next}
use Rattle.market.proofs.Matching.{Uncrossed, uncrossed_append}
use Rattle.invariant.specs.Standing.{Standing}
use Rattle.invariant.proofs.Entry.{flight_ends, flight_starts}
use Rattle.conservation.specs.Book.{Book, before_trades, enters, feed_trades}
use Rattle.conservation.specs.Statement.{all_shown, own_lots, shown}
use Rattle.conservation.proofs.Listed.{shown_append}
use Rattle.conservation.proofs.Good.{Good, relisted}
use Rattle.conservation.proofs.Blocks.{block_agree, release_agree}
use Rattle.conservation.proofs.Match.{Matching, waits}
use Rattle.conservation.proofs.Fill.{fill_ok}

-- the book takes an order with this code
abbrev pub order_in : Book → ℕ → ℕ → Ticket → TimeInForce → Book
order_in b code p m k = before_trades b code (order p m k)

-- after the fill: a kept remainder waits, any other is freed
module _ {U : Type 0} {r : Rules} (b : Book) (d : Day) (e : Order) where
  left_room : (k : TimeInForce) → Matching U k r b d e → 0 < left_waiting k e → length d.waiting < max_waiting
  left_room Kept m h = omega (arith, m.room)
  left_room ImmediateOrCancel m h = absurd (omega arith)
  left_room FillOrKill m h = absurd (omega arith)

  finish_kept : Matching U Kept r b d e → (0 < e.lots → All (λ o. fits e o ≡ false) d.waiting)
      → Good U r b (finished Kept d e)
  finish_kept m ended = record {
    standing = flight_ends d e m.flight Kept (left_room Kept m);
    agree = relisted b.waiting (d.waiting ++ remainder e) b d m.agree;
    waiting = m.waiting;
    uncrossed = λ u h. go (e.lots =? 0) refl (m.uncrossed u);
  }
    where
      go : (z : Bool) → (e.lots =? 0) ≡ z → Uncrossed d.waiting → Uncrossed (d.waiting ++ cond z [] (e ∷ []))
      go true q c = subst (λ (w : List Order). Uncrossed w) (sym (append-nil d.waiting)) c
      go false q c = uncrossed_append d.waiting e c (ended (omega (arith, eqb-false e.lots 0 q)))

  finish_free : (k : TimeInForce) → waits k e ≡ [] → Matching U k r b d e → Standing (release_for d e)
      → Good U r b (release_for d e)
  unfolding release_for
  finish_free k w m st = record {
    standing = st;
    agree =
        release_agree b.waiting b d e m.flight.participant m.flight.security (e ∷ []) m.flight.backed
        d.waiting m.agree (λ y j. omega arith);
    waiting =
        m.waiting ∙ ap (λ (y : List Order). all_shown (d.waiting ++ y)) w ∙ ap all_shown (append-nil d.waiting);
    uncrossed = λ u h. m.uncrossed u;
  }

  finish : (k : TimeInForce) → Matching U k r b d e → (0 < e.lots → All (λ o. fits e o ≡ false) d.waiting)
      → Good U r b (finished k d e)
  finish Kept m ended = finish_kept m ended
  finish ImmediateOrCancel m ended =
      finish_free ImmediateOrCancel refl m (flight_ends d e m.flight ImmediateOrCancel (left_room ImmediateOrCancel m))
  finish FillOrKill m ended =
      finish_free FillOrKill refl m (flight_ends d e m.flight FillOrKill (left_room FillOrKill m))

-- before the fill
enters_waits : (k : TimeInForce) (e : Order) → 0 < e.lots → enters k (shown e) ≡ all_shown (waits k e)
enters_waits Kept e h = rw (ne_eqb e.lots 0 (λ z. omega arith))
enters_waits ImmediateOrCancel e h = refl
enters_waits FillOrKill e h = refl

has_room_lem : (k : TimeInForce) (d : Day) (e : Order) → room_for k d ≡ true → length d.waiting ≤ max_waiting
    → length d.waiting + length (enters k (shown e)) ≤ max_waiting
has_room_lem Kept d e h r = omega (arith, ltb-true (length d.waiting) max_waiting h)
has_room_lem ImmediateOrCancel d e h r = omega arith
has_room_lem FillOrKill d e h r = omega arith

pub start_ok : {U : Type 0} {r : Rules} (b : Book) (d : Day) (p : ℕ) (m : Ticket) (a : Access) (k : TimeInForce) → Good U r b d
    → d.phase ≡ Open → first_no (order_questions d p m a k) ≡ 0
    → Matching U k r (order_in b (codes_of d p + 1) p m k) (admitted d (entry_of d p m)) (entry_of d p m)
unfolding order_questions admitted block_for before_trades
start_ok b d p m a k g phase e =
    let qs = order_questions d p m a k in
    let y = all_yes qs tt e in
    let o = entry_of d p m in
    let hp = ltb-true p d.rules.participants (yes 4 qs y) in
    let hs = ltb-true m.security d.rules.securities (yes 5 qs y) in
    let some = within_low 1 max_lots m.lots (yes 7 qs y) in
    record {
      flight = flight_starts d p m a k g.standing phase e;
      agree =
          block_agree (b.waiting ++ enters k (shown o)) b d o hp hs [] g.standing.backed g.agree (yes 14 qs y);
      waiting = rw (g.waiting, enters_waits k o some) (sym (shown_append d.waiting (waits k o)));
      uncrossed = λ u. g.uncrossed u phase;
      room = has_room_lem k d o (yes 12 qs y) g.standing.room;
    }

pub record EnteredOk (U : Type 0) (r : Rules) (b : Book) (d : Day) (p : ℕ) (m : Ticket) (k : TimeInForce) (f : Filled) : Type 0
  where
    pub good : Good U r (feed_trades r (order_in b (codes_of d p + 1) p m k) f.trades) (finished k f.day f.entry)
    pub own : m.lots ≤ fitting (entry_of d p m) d.waiting
        → sum_of (own_lots m.side p (codes_of d p + 1)) f.trades ≡ m.lots
    pub others : (x : Side) (q c : ℕ) → Fresh q c d.waiting → Differs q c (entry_of d p m)
        → sum_of (own_lots x q c) f.trades ≡ 0
    pub codes : codes_of f.day p ≡ codes_of d p + 1
    pub fresh : (q c : ℕ) → Fresh q c d.waiting → Fresh q c f.day.waiting
    pub count : length f.trades + (length f.day.waiting + min 1 f.entry.lots) ≤ length d.waiting + 1
    pub few : length f.trades ≤ length d.waiting

pub enter_ok : {U : Type 0} {r : Rules} (b : Book) (d : Day) (p : ℕ) (m : Ticket) (a : Access) (k : TimeInForce) → Good U r b d
    → d.phase ≡ Open → first_no (order_questions d p m a k) ≡ 0
    → EnteredOk U r b d p m k (fill (admitted d (entry_of d p m)) (entry_of d p m))
unfolding admitted block_for order_questions
enter_ok {U} {r} b d p m a k g phase e =
    let qs = order_questions d p m a k in
    let hp = ltb-true p d.rules.participants (yes 4 qs (all_yes qs tt e)) in
    let o = entry_of d p m in
    let f = fill (admitted d o) o in
    let b1 = order_in b (codes_of d p + 1) p m k in
    let ok = fill_ok U k r (admitted d o) o b1 (start_ok b d p m a k g phase e) in
    record {
      good = finish (feed_trades r b1 f.trades) f.day f.entry k ok.matching ok.ended;
      own = λ h. omega (arith, ok.own, ok.full h);
      others = ok.others;
      codes = ok.codes p ∙ own_next d p g.standing.backed.rules_ok g.standing.limit hp;
      fresh = ok.fresh;
      count = omega (arith, ok.count);
      few = ok.few;
    }
