-- Question 6: "Does the phase allow it?", as a case for each phase and call (T-04). Each kind of order is a call of its own,
-- and so is a member of a group: "Members then meet 4 onwards".
use Rattle.std.specs.Prelude.{Bool, true, false}
use Rattle.market.specs.declared.Access.{Access}
use Rattle.market.specs.declared.Access.TheVariants.{ClosingOrder, EndCollecting, EndSession, FillOrKill}
use Rattle.market.specs.declared.Access.TheVariants.{ImmediateOrCancel, Kept, Member, NewDay, Offer, StartClosing}
use Rattle.market.specs.declared.Access.TheVariants.{StartCollecting}
use Rattle.market.specs.declared.Phase.{Phase}
use Rattle.market.specs.declared.Phase.TheVariants.{Closed, Closing, Collecting, Open}
use Rattle.market.specs.declared.TimeInForce.{TimeInForce}
use Rattle.market.specs.declared.TimeInForce.TheVariants as force

-- an order of this kind, as a call that question 6 is asked of
abbrev pub order_access : TimeInForce → Access
order_access force.Kept = Kept
order_access force.ImmediateOrCancel = ImmediateOrCancel
order_access force.FillOrKill = FillOrKill

-- the phase allows the call
abbrev pub admits : Phase → Access → Bool
-- in continuous trading, but for its closing, orders enter, kept or not (70.1); "orders and groups, start: open"; collecting
-- is "begun by a call while open" (T-02); an offer "enters while open" (T-06)
admits Open Kept = true
admits Open ImmediateOrCancel = true
admits Open FillOrKill = true
admits Open Member = true
admits Open ClosingOrder = false
admits Open StartCollecting = true
admits Open EndCollecting = false
admits Open StartClosing = true
admits Open EndSession = false
admits Open Offer = true
admits Open NewDay = false
-- "Question 6 admits kept orders and this end while collecting" (T-02)
admits Collecting Kept = true
admits Collecting ImmediateOrCancel = false
admits Collecting FillOrKill = false
admits Collecting Member = false
admits Collecting ClosingOrder = false
admits Collecting StartCollecting = false
admits Collecting EndCollecting = true
admits Collecting StartClosing = false
admits Collecting EndSession = false
admits Collecting Offer = false
admits Collecting NewDay = false
-- while closing, closing orders alone enter (70.9); "closing orders, end: closing"
admits Closing Kept = false
admits Closing ImmediateOrCancel = false
admits Closing FillOrKill = false
admits Closing Member = false
admits Closing ClosingOrder = true
admits Closing StartCollecting = false
admits Closing EndCollecting = false
admits Closing StartClosing = false
admits Closing EndSession = true
admits Closing Offer = false
admits Closing NewDay = false
-- "In the closed phase a call begins a later day" (T-06), and no other
admits Closed Kept = false
admits Closed ImmediateOrCancel = false
admits Closed FillOrKill = false
admits Closed Member = false
admits Closed ClosingOrder = false
admits Closed StartCollecting = false
admits Closed EndCollecting = false
admits Closed StartClosing = false
admits Closed EndSession = false
admits Closed Offer = false
admits Closed NewDay = true
