-- `heading::securities_at` meets its contract: past the 16 places of the table a security leaves it as it is.
use Rattle.std.proofs.Common.{sym, ◌∙◌, arith}
use lib.Seq.{set_out}
use Rattle.heading.proofs.SecurityLines.{passed_next}
use Rattle.heading.proofs.securities_at.Goals.{then-i-lt-MAX_SECURITIES, else-i-lt-MAX_SECURITIES}
use Rattle.heading.proofs.securities_at.Goals as goal

pub loop-i-preserved : goal.loop-i-preserved
loop-i-preserved c =
    let inv = c.loop-i.invariant in
    passed_next inv c.loop-i-test.true c.if-text-next.false c.command_at-reading.ensures c.in-Security.is
    (elim c.if-i-lt-MAX_SECURITIES.branch [
      | then-i-lt-MAX_SECURITIES w ↦ w.table-is
      | else-i-lt-MAX_SECURITIES w ↦ w.table-is ∙ sym (set_out _ _ _ (omega (arith, inv.cells, w.if-i-lt-MAX_SECURITIES.false)))
    ])
