-- `linked::members_in_turn` meets its contract, turn by turn.
use Rattle.std.proofs.Common.{rules, arith, ◌≡◌, ◌*◌, length}
use Rattle.market.specs.Limits.{max_members}
use Rattle.codes.proofs.Numbers.{own_count}
use Rattle.orders.proofs.Asking.{positive}
use Rattle.linked.proofs.Turns.{Tells, few_members, makeable, tells_done, tells_no, turn_enters, turn_first, turn_long}
use Rattle.linked.proofs.Turns.{turn_room, turn_stops, turn_sums, turns_end, turns_owner}
use Rattle.linked.proofs.members_in_turn.Goals.{Joined-asked, in-Err, in-Ok}
use Rattle.linked.proofs.members_in_turn.Goals as goal

pub shared_ref_as_front-member-items : goal.shared_ref_as_front-member-items
shared_ref_as_front-member-items c =
    let long : length c.args.members.now ≡ max_members = search rules in
    omega (arith, few_members c.requires, long)

pub loop-i-init : goal.loop-i-init
loop-i-init c = turn_first _ c.requires (search rules)

pub overflow_mul-at : goal.overflow_mul-at
overflow_mul-at c = omega (arith, turn_room c.loop-i.invariant c.loop-i-test.true)

pub entry_of-entry-requires : goal.entry_of-entry-requires
entry_of-entry-requires c = makeable c.loop-i.invariant _ c.loop-i-test.true c.in-Ok.ensures

pub offset_bounds-trades-at : goal.offset_bounds-trades-at
offset_bounds-trades-at c = omega (arith, turn_room c.loop-i.invariant c.loop-i-test.true)

pub slice_bounds-enter-count : goal.slice_bounds-enter-count
slice_bounds-enter-count c =
    let t = c.loop-i.invariant in
    omega (arith, turn_room t c.loop-i-test.true, turn_long t, t.able.lent)

pub slice_bounds-enter-start : goal.slice_bounds-enter-start
slice_bounds-enter-start c =
    let t = c.loop-i.invariant in
    omega (arith, turn_room t c.loop-i-test.true, turn_long t, t.able.lent)

pub enter-answer-requires : goal.enter-answer-requires
enter-answer-requires c =
    let l = c.loop-i in
    turn_enters l.invariant _ c.loop-i-test.true c.in-Ok.ensures (l.made * 8) (omega arith) c.entry_of-entry.ensures

-- what the member's answer says, whichever way it came
told : (c : Joined-asked) →
    let a = c.args in
    let l = c.loop-i in
    let j = c.match-asked in
    Tells (record {
      rules = a.rules.now;
      floor = a.floor.now;
      owner = a.participant;
      count = a.count;
      members = a.members.now;
      list = a.trades.now;
    }) l.trades l.filled l.made l.i j.floor j.trades j.answer
told c =
    let l = c.loop-i in
    elim c.match-asked.branch [
      | in-Err w ↦
          rw (w.floor-is, w.trades-is, w.answer-is, w.number.ensures)
          (tells_no l.invariant _ c.loop-i-test.true _ (positive w.in-Err.refusal) w.in-Err.ensures)
      | in-Ok w ↦
          rw (w.floor-is, w.trades-is, w.answer-is)
          (tells_done l.invariant _ c.loop-i-test.true w.in-Ok.ensures (l.made * 8) (omega arith) w.entry_of-entry.ensures
          w.enter-answer.ensures)
    ]

pub restore-requires : goal.restore-requires
restore-requires c =
    let t = c.loop-i.invariant in
    let h = turn_room t c.loop-i-test.true in
    (omega (arith, h), omega (arith, h, t.able.lent))

pub returns-in_default : goal.returns-in_default
returns-in_default c =
    let h = rw c.in_default.is at (told (goal.at.returns-in_default c).Joined-asked) in
    rw c.restore.ensures
    (turn_stops c.loop-i.invariant _ _ _ c.in_default.is _ h (c.loop-i.made * 8) (omega arith) _ c.saved-kept.ensures)

pub overflow_add-filled : goal.overflow_add-filled
overflow_add-filled c =
    let h = rw c.in-Done.is at (told (goal.at.overflow_add-filled c).Joined-asked) in
    omega (arith, turn_sums h)

pub overflow_add-made : goal.overflow_add-made
overflow_add-made c =
    let h = rw c.in-Done.is at (told (goal.at.overflow_add-made c).Joined-asked) in
    omega (arith, turn_sums h)

pub loop-i-preserved : goal.loop-i-preserved
loop-i-preserved c = rw c.in-Done.is at (told (goal.at.loop-i-preserved c).Joined-asked)

pub next_code-first-requires : goal.next_code-first-requires
next_code-first-requires c = own_count (turns_owner c.loop-i.invariant c.loop-i-test.false)

pub returns : goal.returns
returns c = turns_end c.loop-i.invariant c.loop-i-test.false c.next_code-first.result c.next_code-first.ensures
