-- `matching::take_off` meets its contract: a filled order is closed over, another keeps its place.
use Prim.Native.Nat.{◌-◌, ◌≤◌, ◌<◌}
use native.Mathlib.Omega.{arith}
use mathlib.Core.Path.{◌∙◌, ap, sym}
use lib.ListN.{length-set, take}
use Rattle.market.specs.Day.{order_at}
use Rattle.market.specs.Tests.{remove_at}
use Rattle.market.proofs.View.{first_take}
use Rattle.matching.proofs.Closing.{gap_closed}
use Rattle.matching.proofs.First.{filled_goes, less_stays}
use Rattle.matching.proofs.take_off.Goals as goal

pub returns-then-lots-waits : goal.returns-then-lots-waits
returns-then-lots-waits c =
    let a = c.args in
    let more : a.lots < (order_at a.orders.now a.at).lots = omega (arith, c.lots_of-waits.ensures) in
    record {
      waiting =
          rw (c.with_lots.ensures, c.lots_of-waits.ensures)
          (less_stays a.count a.orders.now a.at a.lots c.requires.inside (omega (arith, c.requires.inside, c.requires.room)) more);
      long = length-set a.orders.now a.at _;
    }

pub returns : goal.returns
returns c =
    let a = c.args in
    let pre = c.requires in
    let w = a.orders.now in
    let filled : (order_at w a.at).lots ≤ a.lots = omega (arith, c.lots_of-waits.ensures) in
    record {
      waiting =
          first_take (a.count - 1) _ (omega (arith, c.copy_within.ensures.len, pre.room))
          ∙ ap (take (a.count - 1)) c.copy_within.ensures.after
          ∙ gap_closed w a.count a.at pre.inside pre.room
          ∙ ap (λ l. remove_at l a.at) (sym (first_take a.count w pre.room))
          ∙ sym (filled_goes a.count w a.at a.lots pre.inside filled);
      long = c.copy_within.ensures.len;
    }
