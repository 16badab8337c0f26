-- `heading::opened_with` meets its contract. Each security takes a line of the text, so that its place and the lines stay small.
use Rattle.std.proofs.Common.{arith}
use Rattle.heading.proofs.Heading.{lines_open, place_small}
use Rattle.heading.proofs.opened_with.Goals as goal

pub overflow_add-result : goal.overflow_add-result
overflow_add-result c =
    omega (arith, c.in-Ok.ensures.few, c.requires, place_small c.opening-outcome.ensures, c.place_of.ensures)

pub returns : goal.returns
returns c =
    lines_open c.args.participants c.args.currencies c.in-Ok.ensures c.opening-outcome.ensures c.place_of.ensures
