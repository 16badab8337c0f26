-- `calendar::day_count` meets its contract: the days lie in the due day's year and in the one before, and each product is small.
use native.Mathlib.Omega.{arith}
use native.Mathlib.Nat.{add-le-add, lt_of_le_of_lt}
use Prim.Native.Nat.{◌+◌}
use lib.Dec.{lit<}
use Rattle.calendar.specs.Laws.{InYear}
use Rattle.calendar.proofs.Years.{year_found}
use Rattle.calendar.proofs.Days.{count_one, count_two, has_before, weight_fits}
use Rattle.calendar.proofs.day_count.Goals.{After-year_of-year}
use Rattle.calendar.proofs.day_count.Goals as goal

due-year : (c : After-year_of-year) → InYear (c.args.first + c.args.term) c.year_of-year.result
due-year c = year_found c.requires.1 c.year_of-year.ensures

pub overflow_sub-elapsed : goal.overflow_sub-elapsed
overflow_sub-elapsed c = omega (arith, c.first_day.ensures, (due-year c.before).from)

pub weight-requires : goal.weight-requires
weight-requires c = (due-year c.before.before).known

pub overflow_mul-result : goal.overflow_mul-result
overflow_mul-result c =
    record { fits = lt_of_le_of_lt (weight_fits c.args.term _ c.requires.0 c.weight.ensures) (lit< tt) }

pub returns-then-term-elapsed : goal.returns-then-term-elapsed
returns-then-term-elapsed c =
    count_one c.args.first c.args.term (due-year c.before.before.before) c.first_day.ensures
    c.weight.ensures (omega arith)

pub overflow_sub-year : goal.overflow_sub-year
overflow_sub-year c =
    omega (arith, has_before c.args.first c.args.term c.first_day.ensures (omega arith))

pub weight-requires-2 : goal.weight-requires-2
weight-requires-2 c = omega (arith, (due-year c.before.before).known)

pub overflow_mul-result-2 : goal.overflow_mul-result-2
overflow_mul-result-2 c = record { fits = lt_of_le_of_lt (weight_fits _ _ (omega arith) c.weight-2.ensures) (lit< tt) }

pub weight-requires-3 : goal.weight-requires-3
weight-requires-3 c = (due-year c.before.before.before).known

pub overflow_mul-result-3 : goal.overflow_mul-result-3
overflow_mul-result-3 c = record { fits = lt_of_le_of_lt (weight_fits _ _ (omega arith) c.weight-3.ensures) (lit< tt) }

pub overflow_add-result : goal.overflow_add-result
overflow_add-result c =
    record {
      fits =
          lt_of_le_of_lt
          (add-le-add (weight_fits _ _ (omega arith) c.weight-2.ensures)
          (weight_fits _ _ (omega arith) c.weight-3.ensures))
          (lit< tt);
    }

pub returns : goal.returns
returns c =
    count_two c.args.first c.args.term (due-year c.before.before.before.before) c.first_day.ensures
    c.weight-2.ensures c.weight-3.ensures c.requires.0 (omega arith)
