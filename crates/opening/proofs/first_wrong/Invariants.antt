-- `opening::first_wrong` meets its contract: the first wrong row is the first from i on.
use Rattle.std.proofs.Common.{◌≡◌, ◌-◌}
use Rattle.market.specs.Opening.{first_wrong, wrong_line}
use Rattle.opening.proofs.first_wrong.Given as goal

abbrev pub invariant-loop-i : goal.invariant-loop-i
invariant-loop-i l = wrong_line l.rules ≡ first_wrong l.rules (l.rules.securities - l.i) l.i
