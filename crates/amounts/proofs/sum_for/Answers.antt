-- `amounts::sum_for` meets its contract: a price in range times pieces in range fits.
use native.Mathlib.Nat.{lt_of_le_of_lt, mul-le-mul}
use Prim.Native.Nat.{◌*◌, ◌≤◌}
use lib.Dec.{lit<}
use Rattle.market.specs.Limits.{max_value}
use Rattle.market.specs.Needs.{sum_for, value_for}
use Rattle.market.proofs.Needs.{pieces_small}
use Rattle.amounts.proofs.sum_for.Goals as goal

small : (c : goal.After-pieces_of) → c.args.price * c.pieces_of.result ≤ max_value
small c =
    let p = c.requires in
    let a = c.args in
    rw c.pieces_of.ensures (mul-le-mul p.2 (pieces_small a.row a.lots p.0 p.3))

pub overflow_mul-price : goal.overflow_mul-price
overflow_mul-price c = record { fits = lt_of_le_of_lt (small c) (lit< tt) }

pub money_for-requires : goal.money_for-requires
money_for-requires c = (c.requires.1, small c)

pub returns : goal.returns
unfolding sum_for value_for
returns c = rw (c.money_for.ensures, c.pieces_of.ensures)
