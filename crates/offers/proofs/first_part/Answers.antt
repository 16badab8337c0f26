-- `offers::first_part` meets its contract: the two offers trade, and those behind the counter offer move over it.
use native.Mathlib.Omega.{arith}
use Rattle.std.proofs.Common.{◌≡◌, length, rules}
use Rattle.market.specs.Limits.{max_waiting}
use Rattle.offers.proofs.Meeting.{met_done, met_ready, met_room}
use Rattle.offers.proofs.first_part.Goals as goal

pub offset_bounds-floor-last : goal.offset_bounds-floor-last
offset_bounds-floor-last c = omega (arith, met_room c.requires)

pub bounds-floor-last : goal.bounds-floor-last
bounds-floor-last c = omega (arith, c.requires.inside, met_room c.requires)

pub offset_bounds-floor-at : goal.offset_bounds-floor-at
offset_bounds-floor-at c = omega (arith, c.requires.inside, met_room c.requires)

pub bounds-floor-at : goal.bounds-floor-at
bounds-floor-at c = omega (arith, c.requires.inside, met_room c.requires)

pub execute-requires : goal.execute-requires
execute-requires c =
    met_ready c.requires c.if_buy-buy.ensures c.if_buy-sell.ensures c.offer_price-price.ensures c.lots_of-lots.ensures

pub copy_within-requires-clause-in_bounds : goal.copy_within-requires-clause-in_bounds
copy_within-requires-clause-in_bounds c =
    let long : length c.execute.new.floor.orders ≡ max_waiting = search rules in
    omega (arith, long, met_room c.requires)

pub copy_within-requires-clause-dest_in_bounds : goal.copy_within-requires-clause-dest_in_bounds
copy_within-requires-clause-dest_in_bounds c =
    let long : length c.execute.new.floor.orders ≡ max_waiting = search rules in
    omega (arith, long, c.requires.inside, met_room c.requires)

pub returns : goal.returns
returns c =
    let long : length c.args.floor.now.orders ≡ max_waiting = search rules in
    met_done c.requires c.if_buy-buy.ensures c.if_buy-sell.ensures c.offer_price-price.ensures c.lots_of-lots.ensures
    c.execute.ensures (omega (arith, long, met_room c.requires)) c.copy_within.ensures.after
