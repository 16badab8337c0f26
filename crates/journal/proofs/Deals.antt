-- A second part and a new day keep Good: an amount handed on leaves one participant as a decrease, and reaches the other as an
-- increase.
use Prim.Native.Nat.{ℕ, ◌+◌, ◌≤◌, ◌<◌}
use native.Mathlib.Omega.{arith}
use mathlib.Core.Path.{◌≡◌, refl, sym, subst}
use mathlib.Core.List.{List}
use mathlib.Core.Bool.{true}
use borrow.Author.Tests.{leb-true, le-leb}
use Rattle.market.specs.declared.Deal.{Deal}
use Rattle.market.specs.declared.Order.{Order}
use Rattle.market.specs.declared.Phase.TheVariants.{Closed}
use Rattle.market.specs.declared.Rules.{Rules}
use Rattle.market.specs.declared.Asset.{Asset}
use Rattle.market.specs.declared.Asset.TheVariants.{Money, Pieces}
use Rattle.market.specs.Day.{Day, cell, columns_of, currency_of, position, positions, total_limit}
use Rattle.market.specs.Positions.{change, draw, total_at}
use Rattle.market.specs.Questions.{is_free, total_fits}
use Rattle.market.specs.Step.{moved}
use Rattle.market.specs.Deals.{begins, covers_back, handed, money_back, pieces_back, second_paid}
use Rattle.market.proofs.Logic.{and_true}
use Rattle.market.proofs.Totals.{total_drawn}
use Rattle.market.proofs.Matching.{Uncrossed}
use Rattle.market.proofs.Deals.{DealOk}
use Rattle.invariant.proofs.Held.{held_inside}
use Rattle.invariant.proofs.Leaves.{begins_standing, closed_empty}
use Rattle.conservation.specs.Book.{Book}
use Rattle.conservation.proofs.Good.{Good}
use Rattle.conservation.proofs.Moves.{decrease_good, increase_good}
use Rattle.journal.specs.LedgerBook.{anew, moved_back, passed_on}

-- what one participant gives still fits
fits_again : (x : Asset) (d : Day) (p column a : ℕ) → total_at x d.rules.participants (positions x d) column ≤ total_limit x
    → total_at x d.rules.participants (change (positions x d) (cell p column) (draw a)) column + a
    ≡ total_at x d.rules.participants (positions x d) column
    → total_fits x (moved x d p column (draw a)) column a ≡ true
unfolding total_fits
fits_again Money d p column a top e =
    le-leb (total_at Money d.rules.participants (change d.money (cell p column) (draw a)) column + a) (total_limit Money)
    (omega arith)
fits_again Pieces d p column a top e =
    le-leb (total_at Pieces d.rules.participants (change d.pieces (cell p column) (draw a)) column + a) (total_limit Pieces)
    (omega arith)

handed_good : {U : Type 0} {r : Rules} (x : Asset) (b : Book) (d : Day) (p q column a : ℕ) → Good U r b d
    → p < d.rules.participants → q < d.rules.participants → column < columns_of x d.rules
    → is_free x d p column a ≡ true → Good U r (passed_on x b p q column a) (handed x d p q column a)
unfolding handed is_free
handed_good x b d p q column a g hp hq hc free =
    let h = g.standing.backed.held x in
    let m = positions x d in
    let drawn = total_drawn x d.rules.participants p column a m h.rows hp (omega (arith, h.wide)) (held_inside h p column hp hc)
    (leb-true a (position m (cell p column)).free free) in
    increase_good x _ (moved x d p column (draw a)) q column a (decrease_good x b d p column a g hp hc free) hq hc
    (fits_again x d p column a (h.topped column hc) drawn)

pub second_good : {U : Type 0} {r : Rules} (b : Book) (d : Day) (x : Deal) → Good U r b d → DealOk d.rules x
    → covers_back d x ≡ true → Good U r (moved_back r b x) (second_paid d x)
unfolding moved_back second_paid handed is_free
second_good {U} {r} b d x g ok covers =
    let free = and_true covers in
    let pieces = handed_good Pieces b d x.buyer x.seller x.security (pieces_back d.rules x) g ok.buyer ok.seller
    ok.security free.0 in
    let currency = g.standing.backed.rules_ok.currency x.security ok.security in
    subst (λ (y : Rules). Good U r (moved_back y b x) (second_paid d x)) (sym g.agree.rules)
    (handed_good Money _ _ x.seller x.buyer (currency_of d.rules x.security) (money_back d.rules x) pieces
    ok.seller ok.buyer currency free.1)

pub begins_good : {U : Type 0} {r : Rules} (b : Book) (d : Day) → Good U r b d → d.phase ≡ Closed
    → Good U r (anew b) (begins d)
unfolding anew begins
begins_good b d g e =
    let none = closed_empty d g.standing e in
    record {
      standing = begins_standing d g.standing none;
      agree = record {
        rules = g.agree.rules;
        balanced = g.agree.balanced;
        turnover = refl;
        phase = refl;
      };
      waiting = g.waiting;
      uncrossed = λ u h. subst (λ (w : List Order). Uncrossed w) (sym none) tt;
    }
