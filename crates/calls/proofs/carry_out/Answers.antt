-- `calls::carry_out` meets its contract, call by call.
use Rattle.calls.proofs.Lists.{any_list, cancel_listless, closing_listless, move_listless, start_listless}
use Rattle.calls.proofs.carry_out.Goals as goal

pub returns-in-Reserve : goal.returns-in-Reserve
returns-in-Reserve c = rw c.in-Reserve.is (any_list _ (move_listless c.in-Reserve.m) c.reserve.ensures)

pub returns-in-Cancel : goal.returns-in-Cancel
returns-in-Cancel c = rw c.in-Cancel.is (any_list _ (cancel_listless _ _) c.cancel.ensures)

pub returns-in-Start : goal.returns-in-Start
returns-in-Start c = rw c.in-Start.is (any_list _ (start_listless c.in-Start.session) c.start.ensures)

pub returns-in-ClosingOrder : goal.returns-in-ClosingOrder
returns-in-ClosingOrder c =
    rw c.in-ClosingOrder.is
    (any_list _ (closing_listless _ _ _ _) c.enter_closing_order.ensures)
