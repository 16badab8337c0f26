-- `calendar::first_day` meets its contract: its table is the definition's.
use borrow.Author.Rules.{rules}
use native.Mathlib.Omega.{arith}
use Rattle.market.specs.FirstDays.{first_days}
use Rattle.calendar.proofs.Years.{after_table, in_table}
use Rattle.calendar.proofs.first_day.Goals as goal

pub returns-then-year-lt-YEARS : goal.returns-then-year-lt-YEARS
unfolding first_days
returns-then-year-lt-YEARS c = in_table c.args.year (search rules)

pub returns : goal.returns
returns c = after_table c.args.year (omega arith)
