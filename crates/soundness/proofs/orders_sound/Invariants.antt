-- `soundness::orders_sound` meets its contract: the orders before place `i` are sound, their arrivals rise up to `last` and
-- each participant's codes up to his of `lasts`, and what they need is added.
use Rattle.market.specs.Codes.{given}
use Rattle.market.specs.Sound.{order_sound}
use Rattle.market.specs.View.{day_of}
use Rattle.soundness.proofs.Loops as loops
use Rattle.soundness.proofs.Needs.{Added}
use Rattle.soundness.proofs.orders_sound.Given as goal

abbrev pub invariant-loop-i : goal.invariant-loop-i
invariant-loop-i l =
    let d = day_of l.rules l.floor in
    loops.Rest (order_sound d) l.floor.count l.floor.orders l.i
    × loops.Rises (given d) l.floor.count l.floor.orders l.last l.i
    × Added l.rules l.floor.turnover l.floor.count l.floor.orders l.i l.needs
    × loops.Owns l.rules.participants l.floor.codes l.floor.count l.floor.orders l.lasts l.i
