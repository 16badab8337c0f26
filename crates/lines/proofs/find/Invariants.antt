-- As many bytes stand before the first one from here, as far as `i` is.
use Rattle.std.proofs.Common.{◌≡◌, ◌+◌}
use Rattle.lines.specs.Finding.{index_of, slice}
use Rattle.lines.proofs.find.Given as goal

abbrev pub invariant-loop-i : goal.invariant-loop-i
invariant-loop-i l = l.from + index_of l.wanted (slice l.from l.to l.text) ≡ l.i + index_of l.wanted (slice l.i l.to l.text)
