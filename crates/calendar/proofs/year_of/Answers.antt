-- `calendar::year_of` meets its contract: the day lies in one of the two years.
use native.Mathlib.Omega.{arith}
use Rattle.calendar.proofs.Years.{year_after, year_near}
use Rattle.calendar.proofs.year_of.Goals as goal

pub returns-then-day-first_day : goal.returns-then-day-first_day
returns-then-day-first_day c =
    year_near c.args.day c.requires c.first_day.ensures (omega arith)

pub returns : goal.returns
returns c =
    year_after c.args.day c.requires c.first_day.ensures (omega arith)
