-- `offers::enter` meets its contract: the offer comes to wait, and where there is a counter offer, the two trade.
use native.Mathlib.Omega.{arith}
use Rattle.std.proofs.Common.{length-take}
use Rattle.offers.proofs.Entering.{entry_meetable, entry_meets, entry_room, entry_waits}
use Rattle.offers.proofs.enter.Goals as goal

pub shared_ref_as_front-counter_offer : goal.shared_ref_as_front-counter_offer
shared_ref_as_front-counter_offer c = entry_room c.requires

pub first_part-requires : goal.first_part-requires
first_part-requires c =
    entry_meetable c.requires c.counter_offer-place.ensures (omega (arith, length-take c.args.floor.now.count c.args.floor.now.orders))
    c.append-placed.new.floor c.append-placed.ensures.answer c.append-placed.ensures.day c.in-Some.is

pub returns-in-None : goal.returns-in-None
returns-in-None c =
    entry_waits c.requires c.counter_offer-place.ensures (omega (arith, length-take c.args.floor.now.count c.args.floor.now.orders))
    c.append-placed.new.floor c.append-placed.ensures.answer c.append-placed.ensures.day c.in-None.is

pub returns-in-Some : goal.returns-in-Some
returns-in-Some c =
    entry_meets c.requires c.counter_offer-place.ensures (omega (arith, length-take c.args.floor.now.count c.args.floor.now.orders))
    c.append-placed.new.floor c.append-placed.ensures.answer c.append-placed.ensures.day c.in-Some.is c.first_part.ensures
