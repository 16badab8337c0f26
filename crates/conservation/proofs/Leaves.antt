-- Orders that leave: cancelled, or all of them at the start of closing, at its end and at the end of collecting; and the
-- start of collecting.
use Prim.Native.Nat.{ℕ, zero, suc, ◌<◌}
use native.Mathlib.Omega.{arith}
use mathlib.Core.Path.{◌≡◌, refl, ap, sym, ◌∙◌, subst}
use mathlib.Core.List.{List, [], ◌∷◌}
use mathlib.Core.Bool.{true}
use lib.ListN.{length}
use borrow.Author.Tests.{eqb-true}
use Rattle.market.specs.declared.Order.{Order}
use Rattle.market.specs.declared.Phase.{Phase}
use Rattle.market.specs.declared.Phase.TheVariants.{Collecting}
use Rattle.market.specs.Tests.{remove_at}
use Rattle.market.specs.declared.Rules.{Rules}
use Rattle.market.specs.Day.{Day, no_order, order_at, with_phase}
use Rattle.market.specs.Codes.{codes_of, given}
use Rattle.market.specs.Needs.{need_at}
use Rattle.market.specs.Positions.{release_for}
use Rattle.market.specs.Waiting.{Index, all_leave, is_somewhere, leave, leave_first, nowhere, index_in, index_of}
use Rattle.market.specs.Waiting.{somewhere}
use Rattle.market.specs.Questions.{no_code_given}
use Rattle.market.proofs.Logic.{never}
use Rattle.market.proofs.Lists.{all_at, length_remove, sum_remove}
use Rattle.market.proofs.Known.{OrderOk}
use Rattle.market.proofs.Codes.{numbered_none}
use Rattle.market.proofs.Matching.{Uncrossed, uncrossed_remove}
use Rattle.invariant.proofs.Leaves.{leave_standing, phase_standing}
use Rattle.conservation.specs.Book.{Book, Waiting, all_gone, drop_order, turned_to, with_orders}
use Rattle.conservation.specs.Statement.{all_shown}
use Rattle.conservation.proofs.Listed.{Located, index_located}
use Rattle.conservation.proofs.Good.{Good, relisted}
use Rattle.conservation.proofs.Blocks.{release_agree}

-- the order at place i leaves; v is the book's list without it
pub leave_good : {U : Type 0} {r : Rules} (b : Book) (d : Day) (i : ℕ) (v : List Waiting) → Good U r b d
    → i < length d.waiting → v ≡ all_shown (remove_at d.waiting i) → Good U r (with_orders b v) (leave d i)
unfolding leave release_for
leave_good b d i v g h e =
    let o = order_at d.waiting i in
    let ok = all_at (OrderOk d.rules) no_order d.waiting i g.standing.orders h in
    record {
      standing = leave_standing d i g.standing h;
      agree =
          release_agree v b d o ok.participant ok.security [] g.standing.backed (remove_at d.waiting i) g.agree
          (λ y j. omega (arith, sum_remove (need_at y d.rules d.turnover j) no_order d.waiting i h));
      waiting = e;
      uncrossed = λ u isopen. uncrossed_remove d.waiting i (g.uncrossed u isopen);
    }

pub cancel_good : {U : Type 0} {r : Rules} (b : Book) (d : Day) (p c : ℕ) → Good U r b d
    → is_somewhere (index_of p c d.waiting) ≡ true
    → Good U r (with_orders b (drop_order p c b.waiting)) (leave d (index_in (index_of p c d.waiting)))
cancel_good {U} {r} b d p c g e = go (index_of p c d.waiting) (index_located p c d.waiting) e
  where
    go : (f : Index) → Located p c d.waiting f → is_somewhere f ≡ true
        → Good U r (with_orders b (drop_order p c b.waiting)) (leave d (index_in f))
    go nowhere l h = never h
    go (somewhere i) l h =
        leave_good b d i (drop_order p c b.waiting) g l.0 (ap (drop_order p c) g.waiting ∙ l.1)

-- one after another
record AllLeft (U : Type 0) (r : Rules) (b : Book) (d : Day) : Type 0 where
  good : Good U r (with_orders b []) d
  empty : d.waiting ≡ []

no_orders : (w : List Order) → length w ≡ 0 → w ≡ []
no_orders [] e = refl
no_orders (o ∷ w) e = absurd (omega arith)

leave_first_good : {U : Type 0} {r : Rules} (n : ℕ) (b : Book) (d : Day) → Good U r b d → length d.waiting ≡ n
    → AllLeft U r b (leave_first n d)
unfolding leave_first leave
leave_first_good zero b d g e =
    let none = no_orders d.waiting e in
    record {
      good = record {
        standing = g.standing;
        agree = relisted [] d.waiting b d g.agree;
        waiting = sym (ap all_shown none);
        uncrossed = g.uncrossed;
      };
      empty = none;
    }
leave_first_good (suc n) b d g e =
    let h : 0 < length d.waiting = omega arith in
    let v = all_shown (remove_at d.waiting 0) in
    let r = leave_first_good n (with_orders b v) (leave d 0) (leave_good b d 0 v g h refl)
    (omega (arith, length_remove d.waiting 0 h)) in
    record { good = r.good; empty = r.empty }

phase_good : {U : Type 0} {r : Rules} (b : Book) (d : Day) (x : Phase) → Good U r b d → d.waiting ≡ []
    → Good U r (all_gone b x) (with_phase d x)
phase_good b d x g e = record {
  standing = phase_standing d x g.standing e;
  agree = record {
    rules = g.agree.rules;
    balanced = g.agree.balanced;
    turnover = g.agree.turnover;
    phase = refl;
  };
  waiting = sym (ap all_shown e);
  uncrossed = λ u h. subst (λ (w : List Order). Uncrossed w) (sym e) tt;
}

-- "the start .. of collecting": only the phase changes, since no code has been given and so no order waits
pub collecting_good : {U : Type 0} {r : Rules} (b : Book) (d : Day) → Good U r b d → no_code_given d ≡ true
    → Good U r (turned_to Collecting b) (with_phase d Collecting)
collecting_good {U} {r} b d g e =
    let none = numbered_none (given d) (codes_of d) d.waiting g.standing.codes (eqb-true (given d) 0 e) in
    subst (λ (w : List Waiting). Good U r (turned_to Collecting (with_orders b w)) (with_phase d Collecting))
    (ap all_shown (sym none) ∙ sym g.waiting) (phase_good b d Collecting g none)

pub all_leave_good : {U : Type 0} {r : Rules} (b : Book) (d : Day) (x : Phase) → Good U r b d
    → Good U r (all_gone b x) (all_leave d x)
unfolding all_leave
all_leave_good b d x g =
    let r = leave_first_good (length d.waiting) b d g refl in
    phase_good (with_orders b []) (leave_first (length d.waiting) d) x r.good r.empty
