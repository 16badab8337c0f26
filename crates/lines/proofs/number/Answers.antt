-- `lines::number` meets its contract: each byte is a digit or none.
use Rattle.std.proofs.Common.{◌≤◌, arith, get_or}
use Rattle.std.proofs.lemmas.Bool.Decides.{nat_tests}
use Rattle.market.proofs.Logic.{within_high, within_low}
use Rattle.lines.proofs.Digits.{no_digit, read_next}
use Rattle.lines.proofs.number.Goals as goal

pub returns-then-not-is_ascii_digit : goal.returns-then-not-is_ascii_digit
returns-then-not-is_ascii_digit c =
    no_digit c.loop-b.invariant c.loop-b-test.true (λ e.
    let low = within_low 48 57 (get_or c.args.field.now c.loop-b.b-index 0) e in
    let high = within_high 48 57 (get_or c.args.field.now c.loop-b.b-index 0) e in
    grind (arith, nat_tests, c.is_ascii_digit.ensures.value, c.if-not-is_ascii_digit.true))

pub loop-b-preserved : goal.loop-b-preserved
loop-b-preserved c =
    let digit = c.is_ascii_digit.ensures.value in
    let low : 48 ≤ get_or c.args.field.now c.loop-b.b-index 0 = grind (arith, nat_tests, digit, c.if-not-is_ascii_digit.false) in
    let high : get_or c.args.field.now c.loop-b.b-index 0 ≤ 57 = grind (arith, nat_tests, digit, c.if-not-is_ascii_digit.false) in
    rw c.from.ensures (read_next c.loop-b.invariant c.loop-b-test.true low high)
