-- A good day is sound, and a sound day is good against a book of its own.
use Prim.Native.Nat.{ℕ, zero, suc, ◌+◌, ◌≤◌, ◌<◌}
use native.Mathlib.Omega.{arith}
use mathlib.Core.Path.{◌≡◌, refl, ap, subst}
use mathlib.Core.List.{List, [], ◌∷◌}
use mathlib.Core.Bool.{true, cond}
use lib.ListN.{length}
use borrow.Author.Tests.{le-ltb, lt-ltb}
use Rattle.market.specs.Limits.{cells, columns, market}
use Rattle.market.specs.Tests.{◌<?◌}
use Rattle.market.specs.declared.Rules.{Rules}
use Rattle.market.specs.declared.Asset.{Asset}
use Rattle.market.specs.declared.Asset.TheVariants.{Money, Pieces}
use Rattle.market.specs.Day.{Day, columns_of, cell, position, positions}
use Rattle.market.specs.View.{Sized}
use Rattle.market.specs.Positions.{total}
use Rattle.market.specs.Sound.{sound}
use Rattle.market.proofs.Known.{RulesOk}
use Rattle.invariant.specs.Standing.{Standing}
use Rattle.invariant.proofs.Sound.{sound_standing, standing_sound}
use Rattle.conservation.specs.Book.{Balance, Book, balance, balances}
use Rattle.conservation.specs.Statement.{all_shown}
use Rattle.conservation.proofs.Balanced.{Balanced}
use Rattle.conservation.proofs.Good.{Good}

pub good_sound : {U : Type 0} {r : Rules} (b : Book) (d : Day) → Good U r b d → sound d ≡ true
good_sound b d g = standing_sound d g.standing

-- what a balance counts in a cell: all of a participant's, of the market's what is free
abbrev amount_in : List ℕ → ℕ → ℕ
amount_in l j = cond (j <? cell market 0) (total (position l j)) (position l j).free

-- the book that a day would have: all that is there came in; of n places from j on
unfoldable pub totals : ℕ → ℕ → List ℕ → List Balance
totals zero j l = []
totals (suc n) j l = record { into = amount_in l j; out = 0 } ∷ totals n (suc j) l

abbrev pub book_of : Day → Book
book_of d = record {
  money = totals cells 0 d.money;
  pieces = totals cells 0 d.pieces;
  turnover = d.turnover;
  phase = d.phase;
  waiting = all_shown d.waiting;
}

totals_at : (n j i k : ℕ) (l : List ℕ) → k ≡ j + i → i < n
    → amount_in l k + (balance (totals n j l) i).out ≡ (balance (totals n j l) i).into
unfolding totals
totals_at zero j i k l e h = absurd (omega arith)
totals_at (suc n) j zero k l e h =
    let same : j ≡ k = omega arith in
    subst (λ (x : ℕ). amount_in l x + 0 ≡ amount_in l j) same (omega arith)
totals_at (suc n) j (suc i) k l e h = totals_at n (suc j) i k l (omega arith) (omega arith)

totals_length : (n j : ℕ) (l : List ℕ) → length (totals n j l) ≡ n
unfolding totals
totals_length zero j l = refl
totals_length (suc n) j l = ap suc (totals_length n (suc j) l)

totals_balanced : (r : Rules) (n : ℕ) (m : List ℕ) → RulesOk r → n ≤ columns → Balanced r n m (totals cells 0 m)
totals_balanced r n m ok wide = record {
  balances = totals_length cells 0 m;
  agree = λ p c hp hc.
      let at = totals_at cells 0 (cell p c) (cell p c) m (omega arith) (omega (arith, ok.participants)) in
      rw (lt-ltb (cell p c) (cell market 0) (omega (arith, ok.participants))) at at;
  account = λ c hc.
      let at = totals_at cells 0 (cell market c) (cell market c) m (omega arith) (omega arith) in
      rw (le-ltb (cell market c) (cell market 0) (omega arith)) at at;
}

-- a sound day is good against a book of its own
pub sound_good : (d : Day) → Sized d → sound d ≡ true → Good ⊥ d.rules (book_of d) d
sound_good d size e = record {
  standing = standing;
  agree = record { rules = refl; balanced = balanced; turnover = refl; phase = refl };
  waiting = refl;
  uncrossed = λ u h. absurd u;
}
  where
    standing : Standing d
    standing = sound_standing d size e

    balanced : (x : Asset) → Balanced d.rules (columns_of x d.rules) (positions x d) (balances x (book_of d))
    balanced Money =
        totals_balanced d.rules _ d.money standing.backed.rules_ok
        (omega (arith, standing.backed.rules_ok.currencies))
    balanced Pieces =
        totals_balanced d.rules _ d.pieces standing.backed.rules_ok standing.backed.rules_ok.securities
