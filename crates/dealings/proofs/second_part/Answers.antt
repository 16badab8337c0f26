-- `dealings::second_part` meets its contract: 16, then 24 and 14 of the deal at the place, then it is paid and ends.
use native.Mathlib.Omega.{arith}
use mathlib.Core.Path.{sym}
use Rattle.amounts.proofs.Answers.{fails, holds}
use Rattle.orders.proofs.Asking.{positive}
use Rattle.dealings.proofs.Second.{rules_right, second_done, second_few, second_no, second_none, second_payable, second_pays}
use Rattle.dealings.proofs.Second.{second_place, second_right}
use Rattle.dealings.proofs.second_part.Goals as goal

pub returns-then-not-within : goal.returns-then-not-within
returns-then-not-within c =
    rw c.from.ensures
    (second_none _ _ _ c.requires _ (fails c.within.ensures c.if-not-within.true))

pub overflow_sub-at : goal.overflow_sub-at
overflow_sub-at c = (second_place _ _ _ c.requires c.args.place (holds c.within.ensures c.if-not-within.false)).0

pub offset_bounds-records-at : goal.offset_bounds-records-at
offset_bounds-records-at c =
    omega (arith, second_place _ _ _ c.requires c.args.place (holds c.within.ensures c.if-not-within.false), second_few _ _ _ c.requires)

pub bounds-records-at : goal.bounds-records-at
bounds-records-at c =
    omega (arith, second_place _ _ _ c.requires c.args.place (holds c.within.ensures c.if-not-within.false), second_few _ _ _ c.requires)

pub part_of-part-requires : goal.part_of-part-requires
part_of-part-requires c =
    (rules_right _ _ _ c.requires, second_right _ _ _ c.requires _ (holds c.within.ensures c.if-not-within.false))

pub part_no-requires : goal.part_no-requires
part_no-requires c =
    rw c.part_of-part.ensures (second_payable _ _ _ c.requires _ (holds c.within.ensures c.if-not-within.false))

pub returns-in-Err : goal.returns-in-Err
returns-in-Err c =
    rw c.from-in-Err.ensures
    (second_no _ _ _ c.requires _ (holds c.within.ensures c.if-not-within.false) _ (positive c.in-Err.refusal)
    (rw c.part_of-part.ensures at c.in-Err.ensures))

pub pay-requires : goal.pay-requires
pay-requires c =
    rw c.part_of-part.ensures
    (second_pays _ _ _ c.requires _ (holds c.within.ensures c.if-not-within.false)
    (sym (rw c.part_of-part.ensures at c.in_default.ensures)))

pub ended-requires : goal.ended-requires
ended-requires c =
    ((second_place _ _ _ c.requires c.args.place (holds c.within.ensures c.if-not-within.false)).1, second_few _ _ _ c.requires)

pub returns : goal.returns
returns c =
    second_done _ _ _ c.requires _ (holds c.within.ensures c.if-not-within.false)
    (sym (rw c.part_of-part.ensures at c.in_default.ensures))
    (rw c.part_of-part.ensures at c.pay.ensures) c.ended.ensures
