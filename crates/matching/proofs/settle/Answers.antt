-- `matching::settle` meets its contract: two transfers between the definition's cells, and the fees.
use native.Mathlib.Omega.{arith}
use Rattle.matching.proofs.Settling.{fee_small, fees_fit, fees_paid_lem, fees_payable, payable_as, transferred}
use Rattle.matching.proofs.settle.Goals as goal

-- the fee is no larger than the sum, and this in range
pub overflow_add-sum : goal.overflow_add-sum
overflow_add-sum c =
    omega (
      arith,
      fee_small c.requires c.cell_of-payer.ensures c.cell_of-payee.ensures c.fee_of-fee.ensures,
      c.requires.small,
    )

pub overflow_sub-sum : goal.overflow_sub-sum
overflow_sub-sum c =
    omega (
      arith,
      fee_small c.requires c.cell_of-payer.ensures c.cell_of-payee.ensures
          c.fee_of-fee.ensures,
    )

pub transfer-requires : goal.transfer-requires
transfer-requires c =
    fees_payable c.requires c.cell_of-payer.ensures c.cell_of-payee.ensures
    c.fee_of-fee.ensures

pub overflow_add-fee : goal.overflow_add-fee
overflow_add-fee c =
    omega (
      arith,
      fee_small c.requires c.cell_of-payer.ensures c.cell_of-payee.ensures c.fee_of-fee.ensures,
      c.requires.small,
    )

pub receive-requires : goal.receive-requires
receive-requires c =
    fees_fit c.requires c.cell_of-payer.ensures c.cell_of-payee.ensures
    c.fee_of-fee.ensures c.transfer.ensures c.account_cell.ensures

pub transfer-requires-2 : goal.transfer-requires-2
transfer-requires-2 c =
    payable_as c.cell_of-holder.ensures c.cell_of-taker.ensures c.requires.pieces

pub returns : goal.returns
returns c =
    rw (
      fees_paid_lem c.requires c.cell_of-payer.ensures c.cell_of-payee.ensures c.fee_of-fee.ensures c.transfer.ensures
          c.account_cell.ensures c.receive.ensures,
      c.transfer-2.ensures,
      transferred c.cell_of-holder.ensures c.cell_of-taker.ensures c.args.floor.now.pieces c.args.sold c.args.sold c.args.sold,
    )
