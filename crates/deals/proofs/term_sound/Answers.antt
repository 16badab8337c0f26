-- `deals::term_sound` meets its contract: the term, then the due day.
use native.Mathlib.Omega.{arith}
use borrow.Author.Tests.{le-leb, leb-true}
use mathlib.Core.Path.{◌≡◌}
use Prim.Native.Nat.{◌+◌, ◌-◌}
use Rattle.market.specs.Limits.{last_day, max_term}
use Rattle.market.specs.Tests.{◌and◌, ◌≤?◌}
use Rattle.market.specs.Deals.{term_sound}
use Rattle.market.proofs.Logic.{within_high}
use Rattle.amounts.proofs.Answers.{fails, holds}
use Rattle.soundness.proofs.Loops.{same}
use Rattle.deals.proofs.term_sound.Goals as goal

pub overflow_sub-result : goal.overflow_sub-result
overflow_sub-result c = omega (arith, within_high 1 max_term c.args.term (holds c.within.ensures c.if-within.true))

pub returns-then-within : goal.returns-then-within
unfolding term_sound ◌and◌
returns-then-within c =
    let f = c.args.first in
    let t = c.args.term in
    let short = within_high 1 max_term t (holds c.within.ensures c.if-within.true) in
    let due : (f ≤? (last_day - t)) ≡ (f + t ≤? last_day) =
    same _ _ (λ e. le-leb (f + t) last_day (omega (arith, leb-true f (last_day - t) e)))
    (λ e. le-leb f (last_day - t) (omega (arith, leb-true (f + t) last_day e))) in
    rw (holds c.within.ensures c.if-within.true) due

pub returns-else-within : goal.returns-else-within
unfolding term_sound ◌and◌
returns-else-within c = rw (fails c.within.ensures c.if-within.false) c.if-within.false
