-- `amounts::nearest` meets its contract: quotient and remainder, and one more where the remainder is at least a half.
use native.Mathlib.Nat.{div-lt_self, mod-le, mod-lt}
use native.Mathlib.Omega.{arith}
use mathlib.Core.Path.{sym}
use Rattle.market.proofs.Needs.{nearest_down, nearest_up, nearest_zero}
use Rattle.amounts.proofs.nearest.Goals as goal

pub returns-then-b-eq0 : goal.returns-then-b-eq0
returns-then-b-eq0 c = rw (c.if-b-eq0.true, nearest_zero)

pub overflow_sub-b : goal.overflow_sub-b
overflow_sub-b c = omega (arith, mod-lt c.args.a {m = c.args.b} (omega arith))

pub returns-then-rest-b : goal.returns-then-rest-b
returns-then-rest-b c = sym (nearest_down c.args.a c.args.b c.if-rest-b.true)

-- a remainder of at least a half is above 0, and b above 1
pub overflow_add-result : goal.overflow_add-result
overflow_add-result c =
    let a = c.args.a in
    let b = c.args.b in
    let rest = mod-lt a {m = b} (omega arith) in
    omega (arith, div-lt_self {n = a} {k = b} (omega (arith, mod-le a b)) (omega arith))

pub returns : goal.returns
returns c =
    sym (nearest_up c.args.a c.args.b (omega arith) (omega arith))
