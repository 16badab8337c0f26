-- `dealings::carry_out` meets its contract: a second part and a new day read no lent list.
use Rattle.dealings.proofs.carry_out.Goals as goal

pub returns-in-SecondPart : goal.returns-in-SecondPart
returns-in-SecondPart c = rw c.in-SecondPart.is (c.second_part.ensures c.args.trades.now)

pub returns-in-NewDay : goal.returns-in-NewDay
returns-in-NewDay c = rw c.in-NewDay.is (c.new_day.ensures c.args.rules.now c.args.trades.now c.requires)
