-- `heading::heading_of` meets its contract: the first line is an `H`, and its `S` lines follow.
use Rattle.heading.proofs.Heading.{heading_is, heading_other}
use Rattle.heading.proofs.heading_of.Goals as goal

pub returns-in_default : goal.returns-in_default
returns-in_default c =
    heading_other c.command_at-reading.ensures c.in_default.not-Heading c.wrong_heading.ensures

pub returns : goal.returns
returns c =
    heading_is c.command_at-reading.ensures c.in-Heading.is c.opened_with.ensures
