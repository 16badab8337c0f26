-- `session::terms_for` meets its contract: the orders lent to the auction are those that wait.
use Rattle.std.proofs.Common.{◌≤◌, arith, length, length-take}
use Rattle.market.specs.declared.Floor.{Floor}
use Rattle.market.specs.Limits.{max_waiting}
use Rattle.market.specs.View.{first_orders}
use Rattle.market.proofs.View.{first_length, first_take}
use Rattle.matching.specs.Orders.{FewLots}
use Rattle.session.proofs.terms_for.Goals as goal

few : (f : Floor) → FewLots (first_orders f.count f.orders) → f.count ≤ max_waiting
few f h = omega (arith, h.room, first_length f.count f.orders)

pub shared_ref_as_front-price : goal.shared_ref_as_front-price
shared_ref_as_front-price c = few c.args.floor.now c.requires.0

pub price-price-requires : goal.price-price-requires
price-price-requires c =
    let f = c.args.floor.now in
    let inside : f.count ≤ length f.orders = omega (arith, few f c.requires.0, length-take f.count f.orders) in
    rw (first_take f.count f.orders inside) at c.requires.0

pub returns-in-Collecting : goal.returns-in-Collecting
returns-in-Collecting c =
    let f = c.args.floor.now in
    let inside : f.count ≤ length f.orders = omega (arith, few f c.requires.0, length-take f.count f.orders) in
    rw (c.in-Collecting.is, first_take f.count f.orders inside, c.price-price.ensures)
