-- `dealings::entered` meets its contract: the offer enters, and the deal of the trade that it may have made is recorded.
use Rattle.dealings.proofs.Offering.{deals_left, narrows, numberable, offer_done, offerable, readable}
use Rattle.dealings.proofs.entered.Goals as goal

pub offer_of-entry-requires : goal.offer_of-entry-requires
offer_of-entry-requires c = (numberable c.requires, narrows c.requires)

pub enter-answer-requires : goal.enter-answer-requires
enter-answer-requires c = offerable c.requires c.offer_of-entry.ensures

pub recorded-requires : goal.recorded-requires
recorded-requires c =
    (deals_left c.requires, readable c.requires c.offer_of-entry.ensures c.enter-answer.ensures c.made_in-made.ensures)

pub returns : goal.returns
returns c =
    offer_done c.requires c.offer_of-entry.ensures c.enter-answer.ensures c.made_in-made.ensures c.recorded.ensures
