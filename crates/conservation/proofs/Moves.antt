-- Increase and decrease keep Good.
use Prim.Native.Nat.{ℕ, ◌+◌, ◌≤◌, ◌<◌}
use native.Mathlib.Omega.{arith}
use mathlib.Core.Path.{◌≡◌, refl}
use mathlib.Core.List.{List}
use mathlib.Core.Bool.{true}
use borrow.Author.Tests.{leb-true}
use Rattle.market.specs.Day.{Position}
use Rattle.market.specs.declared.Rules.{Rules}
use Rattle.market.specs.declared.Asset.{Asset}
use Rattle.market.specs.declared.Asset.TheVariants.{Money, Pieces}
use Rattle.market.specs.Day.{Day, columns_of, cell, position, positions, total_limit}
use Rattle.market.specs.Day.{with_positions}
use Rattle.market.specs.Positions.{change, draw, receive, total_at}
use Rattle.market.specs.Questions.{is_free, total_fits}
use Rattle.market.specs.Step.{moved}
use Rattle.market.proofs.Totals.{raised, total_falls}
use Rattle.conservation.specs.Book.{Balance, Book, add, balances, sub, with_balances}
use Rattle.invariant.proofs.Held.{held_inside, held_member}
use Rattle.invariant.proofs.Backed.{standing_moved}
use Rattle.conservation.proofs.Balanced.{Balanced, balanced_add, balanced_sub}
use Rattle.conservation.proofs.Good.{Good}

-- in a known cell
module _ {U : Type 0} {r : Rules} (x : Asset) (b : Book) (d : Day) (p column a : ℕ) (g : Good U r b d)
    (hp : p < d.rules.participants) (hc : column < columns_of x d.rules) where
  abbrev at : ℕ
  at = cell p column

  -- the positions of one asset and their balances are others that agree
  moved_good : (f : Position → Position) (l : List Balance) →
      let m : List ℕ = change (positions x d) at f in
      (f (position (positions x d) at)).blocked ≡ (position (positions x d) at).blocked
      → Balanced d.rules (columns_of x d.rules) m l
      → ((c : ℕ) → c < columns_of x d.rules → total_at x d.rules.participants m c ≤ total_limit x)
      → Good U r (with_balances x b l) (with_positions x d m)
  moved_good f l same balanced top = record {
    standing = standing_moved x d p column f g.standing hp hc same top;
    agree = record {
      rules = g.agree.rules;
      balanced = each x balanced;
      turnover = g.agree.turnover;
      phase = g.agree.phase;
    };
    waiting = g.waiting;
    uncrossed = g.uncrossed;
  }
    where
      each : (x : Asset) →
          let m : List ℕ = change (positions x d) at f in
          Balanced d.rules (columns_of x d.rules) m l → (y : Asset)
          → Balanced d.rules (columns_of y d.rules) (positions y (with_positions x d m)) (balances y (with_balances x b l))
      each Money h Money = h
      each Money h Pieces = g.agree.balanced Pieces
      each Pieces h Money = g.agree.balanced Money
      each Pieces h Pieces = h

  pub increase_good : total_fits x d column a ≡ true
      → Good U r (with_balances x b (add (balances x b) at a)) (moved x d p column (receive a))
  unfolding total_fits
  increase_good e =
      let h = g.standing.backed.held x in
      let m = positions x d in
      let top = leb-true (total_at x d.rules.participants m column + a) (total_limit x) e in
      moved_good (receive a) _ refl
      (balanced_add h (g.agree.balanced x) p column a (receive a) hp hc (omega arith))
      (λ k hk.
      raised x d.rules.participants p column a (total_limit x) m h.rows hp (omega (arith, h.wide))
      (held_inside h p column hp hc) top k (omega (arith, h.wide)) (h.topped k hk))

  pub decrease_good : is_free x d p column a ≡ true
      → Good U r (with_balances x b (sub (balances x b) at a)) (moved x d p column (draw a))
  unfolding is_free
  decrease_good e =
      let h = g.standing.backed.held x in
      let m = positions x d in
      let has = leb-true a (position m at).free e in
      moved_good (draw a) _ refl
      (balanced_sub h (g.agree.balanced x) p column a (draw a) hp hc (omega (arith, has)))
      (λ k hk.
      let t = total_falls x d.rules.participants k m at (draw a) a (held_member h p column hp hc)
      (held_inside h p column hp hc) (omega arith) in
      omega (arith, t, h.topped k hk))
