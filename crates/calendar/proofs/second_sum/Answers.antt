-- `calendar::second_sum` meets its contract: the products fit, and so does the sum.
use native.Mathlib.Nat.{lt_of_le_of_lt}
use lib.Dec.{lit<}
use Rattle.market.specs.Calendar.{second_sum}
use Rattle.calendar.proofs.Second.{product_most, rated_most, second_range}
use Rattle.calendar.proofs.second_sum.Goals as goal

pub overflow_mul-sum : goal.overflow_mul-sum
overflow_mul-sum c =
    let p = c.requires in
    record { fits = lt_of_le_of_lt (rated_most c.args.sum c.args.rate p.0 p.1) (lit< tt) }

pub overflow_mul-sum-2 : goal.overflow_mul-sum-2
overflow_mul-sum-2 c =
    let a = c.args in
    let p = c.requires in
    rw c.day_count.ensures
    (record { fits = lt_of_le_of_lt (product_most a.sum a.rate a.first a.term p.0 p.1 p.2) (lit< tt) })

pub overflow_add-result : goal.overflow_add-result
unfolding second_sum
overflow_add-result c =
    let a = c.args in
    let p = c.requires in
    rw (c.nearest.ensures, c.day_count.ensures)
    (record { fits = lt_of_le_of_lt (second_range a.sum a.rate a.first a.term p.0 p.1 p.2).1 (lit< tt) })

pub returns : goal.returns
unfolding second_sum
returns c = rw (c.nearest.ensures, c.day_count.ensures)
