-- `soundness::nominal_sound` meets its contract: 0 first, then the range.
use mathlib.Core.Bool.{true}
use mathlib.Core.Path.{sym, ◌∙◌}
use Rattle.market.specs.Limits.{max_nominal, min_nominal}
use Rattle.market.specs.Tests.{within}
use Rattle.market.proofs.Logic.{if_some}
use Rattle.soundness.proofs.nominal_sound.Goals as goal

pub returns-then-row-eq0 : goal.returns-then-row-eq0
returns-then-row-eq0 c = rw c.if-row-eq0.true

pub returns : goal.returns
returns c =
    let m = c.args.row.nominal in
    c.within.ensures ∙ sym (if_some m true (within min_nominal max_nominal m) c.if-row-eq0.false)
