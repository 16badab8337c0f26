-- `calendar::weight` meets its contract: the table says how long the year is.
use native.Mathlib.Omega.{arith}
use Prim.Native.Nat.{◌+◌}
use mathlib.Core.Path.{◌≡◌}
use Rattle.market.specs.Calendar.{long_year, short_year}
use Rattle.calendar.specs.Laws.{weight_of}
use Rattle.calendar.proofs.Days.{weight_range, weight_read}
use Rattle.calendar.proofs.weight.Goals.{After-first_day-2}
use Rattle.calendar.proofs.weight.Goals as goal

-- the two first days that were read, and what a day counts between them
counted : (c : After-first_day-2)
    → c.first_day.result + weight_of c.args.year
    ≡ c.first_day-2.result + (long_year + short_year)
counted c =
    rw (c.first_day.ensures, c.first_day-2.ensures)
    (weight_read c.args.year c.requires)

pub overflow_sub-first_day : goal.overflow_sub-first_day
overflow_sub-first_day c = omega (arith, counted c, weight_range c.args.year)

pub returns-then-first_day-eq-LONG_YEAR : goal.returns-then-first_day-eq-LONG_YEAR
returns-then-first_day-eq-LONG_YEAR c = omega (arith, counted c.before)

pub returns : goal.returns
returns c = omega (arith, counted c.before, weight_range c.args.year)
