-- `codes::numbered` meets its contract: all codes given are few, so that one more fits.
use native.Mathlib.Omega.{arith}
use Rattle.market.proofs.Codes.{codes_top}
use Rattle.codes.proofs.numbered.Goals as goal

pub overflow_add-result : goal.overflow_add-result
overflow_add-result c =
    let b = c.before in
    omega (arith, c.given.ensures, codes_top b.args.participants b.args.codes.now b.requires.few b.requires.codes)

pub overflow_cast-result : goal.overflow_cast-result
overflow_cast-result c =
    let b = c.before in
    omega (arith, c.given.ensures, codes_top b.args.participants b.args.codes.now b.requires.few b.requires.codes)
