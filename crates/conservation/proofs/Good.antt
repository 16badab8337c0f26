-- What holds between the book and the day, beside what every sound day keeps.
use mathlib.Core.Path.{◌≡◌}
use mathlib.Core.List.{List}
use Rattle.market.specs.declared.Order.{Order}
use Rattle.market.specs.declared.Phase.TheVariants.{Open}
use Rattle.market.specs.declared.Rules.{Rules}
use Rattle.market.specs.declared.Asset.{Asset}
use Rattle.market.specs.Day.{Day, columns_of, positions, with_waiting}
use Rattle.market.proofs.Matching.{Uncrossed}
use Rattle.invariant.specs.Standing.{Standing}
use Rattle.conservation.specs.Book.{Book, Waiting, balances, with_orders}
use Rattle.conservation.specs.Statement.{all_shown}
use Rattle.conservation.proofs.Balanced.{Balanced}

-- positions, Q, T and phase agree; r is the opening's arguments
pub record Agree (r : Rules) (b : Book) (d : Day) : Type 0 where
  pub rules : r ≡ d.rules
  pub balanced : (x : Asset) → Balanced d.rules (columns_of x d.rules) (positions x d) (balances x b)
  pub turnover : b.turnover ≡ d.turnover
  pub phase : b.phase ≡ d.phase

-- between calls; U says whether buys are known to stand below sells, as they do after an opening
pub record Good (U : Type 0) (r : Rules) (b : Book) (d : Day) : Type 0 where
  pub standing : Standing d
  pub agree : Agree r b d
  pub waiting : b.waiting ≡ all_shown d.waiting
  pub uncrossed : U → d.phase ≡ Open → Uncrossed d.waiting

-- other waiting orders, in the book as in the day
pub relisted : {r : Rules} (v : List Waiting) (w' : List Order) (b : Book) (d : Day) → Agree r b d
    → Agree r (with_orders b v) (with_waiting d w')
relisted v w' b d a = record {
  rules = a.rules;
  balanced = a.balanced;
  turnover = a.turnover;
  phase = a.phase;
}
