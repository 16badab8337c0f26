-- An accepted group keeps Good and fills each member whole.
use Prim.Native.Nat.{ℕ, zero, suc, ◌+◌, ◌≤◌, ◌<◌}
use native.Mathlib.Omega.{arith}
use mathlib.Core.Path.{◌≡◌, refl, ap, subst}
use mathlib.Core.List.{List, [], ◌∷◌, ◌++◌, append-nil}
use lib.ListN.{length, length-append}
use borrow.Author.Tests.{leb-true}
use Rattle.market.specs.declared.Access.TheVariants.{Member}
use Rattle.market.specs.declared.Ticket.{Ticket}
use Rattle.market.specs.declared.Side.{Side}
use Rattle.market.specs.declared.TimeInForce.TheVariants.{FillOrKill}
use Rattle.market.specs.Tests.{sum_of}
use Rattle.market.specs.declared.Rules.{Rules}
use Rattle.market.specs.Day.{Day}
use Rattle.market.specs.Codes.{codes_of, given}
use Rattle.market.specs.Positions.{release_for}
use Rattle.market.specs.TradeList.{Trade}
use Rattle.market.specs.Calls.{entry_of}
use Rattle.market.specs.Questions.{first_no, member_questions, order_questions}
use Rattle.market.specs.Matching.{Filled, fill, fitting}
use Rattle.market.specs.Entry.{admitted, entered, finished}
use Rattle.market.specs.Linked.{Group, member_by, members, passed, stopped, with_member}
use Rattle.market.proofs.Lists.{sum_append}
use Rattle.market.proofs.Questions.{all_yes, yes}
use Rattle.market.proofs.Phases.{member_open}
use Rattle.market.proofs.Waiting.{Fresh}
use Rattle.market.proofs.Codes.{numbered_fresh}
use Rattle.conservation.specs.Book.{Book, before_trades, feed_trades, with_orders}
use Rattle.conservation.specs.Statement.{FilledEach, own_lots}
use Rattle.conservation.proofs.Listed.{feed_trades_append}
use Rattle.conservation.proofs.Good.{Good}
use Rattle.conservation.proofs.Enter.{EnteredOk, enter_ok, order_in}

-- what holds of the members from a day on
abbrev pub GroupOk : Type 0 → Rules → Book → Day → ℕ → List Ticket → Group → Type 0
GroupOk U r b d p ms (stopped n q) = Unit {0}
GroupOk U r b d p ms (passed d' f ts) =
    Good U r (feed_trades r b ts) d' × FilledEach (codes_of d p + 1) p ms ts
    × ((x : Side) (c : ℕ) → Fresh p c d.waiting → c ≤ codes_of d p → sum_of (own_lots x p c) ts ≡ 0)
    × (length ts + length d'.waiting ≤ length d.waiting + length ms)

-- trades before them that hold none of these codes
each_after : (a c p : ℕ) (ms : List Ticket) (s t : List Trade) → a ≤ c
    → ((x : Side) (c : ℕ) → a ≤ c → sum_of (own_lots x p c) s ≡ 0) → FilledEach c p ms t → FilledEach c p ms (s ++ t)
each_after a c p [] s t h z f = tt
each_after a c p (m ∷ ms) s t h z f = (
  omega (arith, sum_append (own_lots m.side p c) s t, z m.side c h, f.0),
  each_after a (c + 1) p ms s t (omega arith) z f.1,
)

pub members_ok : {U : Type 0} {r : Rules} (ms : List Ticket) (at : ℕ) (d : Day) (p : ℕ) (b : Book) → Good U r b d
    → GroupOk U r b d p ms (members at d p ms)
unfolding members entered feed_trades release_for order_questions before_trades
members_ok [] at d p b g = (g, tt, λ x c h k. refl, omega arith)
members_ok {U} {r} (m ∷ ms) at d p b g = go (first_no (member_questions d p m)) refl
    (λ d' b' g'. members_ok ms (suc at) d' p b' g')
  where
    f : Filled
    f = fill (admitted d (entry_of d p m)) (entry_of d p m)

    d1 : Day
    d1 = finished FillOrKill f.day f.entry

    s : List Trade
    s = f.trades

    unused : (c : ℕ) → codes_of d p < c → Fresh p c d.waiting
    unused c h = numbered_fresh (given d) (codes_of d) d.waiting p c g.standing.codes h

    with_rest : EnteredOk U r b d p m FillOrKill f → codes_of d1 p ≡ codes_of d p + 1
        → m.lots ≤ fitting (entry_of d p m) d.waiting
        → (g2 : Group) → GroupOk U r (feed_trades r b s) d1 p ms g2
        → GroupOk U r b d p (m ∷ ms) (with_member (entered d (entry_of d p m) FillOrKill) g2)
    with_rest e c1 fits (stopped n q) h = tt
    with_rest e c1 fits (passed d' filled ts) h = (
      rw (feed_trades_append r b s ts) h.0,
      (
        omega (
          arith,
          sum_append (own_lots m.side p (codes_of d p + 1)) s ts,
          e.own fits,
          h.2 m.side
              (codes_of d p + 1) (e.fresh p (codes_of d p + 1) (unused (codes_of d p + 1) (omega arith))) (omega arith),
        ),
        each_after (codes_of d p + 2) (codes_of d p + 1 + 1) p ms s ts (omega arith)
            (λ x c k. e.others x p c (unused c (omega arith)) (λ y z. omega arith))
            (subst (λ (n : ℕ). FilledEach (n + 1) p ms ts) c1 h.1),
      ),
      λ x c k l. omega (
        arith,
        sum_append (own_lots x p c) s ts,
        e.others x p c k (λ y z. omega arith),
        h.2 x c (e.fresh p c k) (omega arith),
      ),
      omega (arith, e.count, h.3, length-append s ts),
    )

    go : (n : ℕ) → first_no (member_questions d p m) ≡ n
        → ((d' : Day) (b' : Book) → Good U r b' d' → GroupOk U r b' d' p ms (members (suc at) d' p ms))
        → GroupOk U r b d p (m ∷ ms) (member_by n at (entered d (entry_of d p m) FillOrKill)
        (λ d'. members (suc at) d' p ms))
    go (suc n) e again = tt
    go zero e again =
        let qs = member_questions d p m in
        let y = all_yes qs tt e in
        let ok = enter_ok b d p m Member FillOrKill g (member_open d.phase (yes 6 qs y)) e in
        let fits = leb-true m.lots (fitting (entry_of d p m) d.waiting) (yes 15 qs y) in
        let same : order_in b (codes_of d p + 1) p m FillOrKill ≡ b = ap (with_orders b) (append-nil b.waiting) in
        let good : Good U r (feed_trades r b s) d1 =
        subst (λ (y : Book). Good U r (feed_trades r y s) d1) same ok.good in
        with_rest ok ok.codes fits (members (suc at) d1 p ms) (again d1 (feed_trades r b s) good)
