-- `exports::checked::whole_day` meets its contract: after the beginning a command after another by the public call, as
-- long as the buffer has room, then the positions.
use native.Mathlib.Omega.{arith}
use mathlib.Core.Path.{refl, sym, ◌∙◌}
use borrow.Author.Rules.{rules}
use Rattle.market.specs.View.{Sized, view}
use Rattle.commands.proofs.Carrying.{goes_on_both}
use Rattle.commands.proofs.Placing.{lines_few}
use Rattle.dayfile.proofs.Resuming.{starts}
use Rattle.dayfile.proofs.Whole.{begins_room, prints_none, prints_over}
use Rattle.reading.proofs.Tags.{not_call}
use Rattle.exports.proofs.PublicCalls.{follows_call, follows_none}
use Rattle.exports.proofs.Printing.{Left, begins_on, further_next, further_none, going, prints_all, undealt_sound}
use Rattle.exports.proofs.checked.whole_day.Goals.{Joined-reading, in-Call, in_default}
use Rattle.exports.proofs.checked.whole_day.Goals as goal

pub returns-then-run : goal.returns-then-run
returns-then-run c = prints_over c.begin-run.ensures c.if-run.true

pub loop-trades-init : goal.loop-trades-init
loop-trades-init c =
    let z : Sized (view c.begin-run.result.state) = record {
      table = search rules;
      money = search rules;
      pieces = search rules;
      codes = search rules;
      turnover = search rules;
    } in
    let begins = c.begin-run.ensures in
    let going = begins.going c.if-run.false in (
      further_none (undealt_sound _ going.sound) c.if-run.false (starts z going) begins.filled,
      refl,
      omega (arith, begins.size, begins_room begins c.if-run.false),
    )

-- what the command did, with a call and without
joined : (c : Joined-reading) →
    let l = c.loop-trades in
    let g = c.command_at-reading.result in
    let m = c.match-reading in
    Left l.run g.says g.members l.trades m.run m.answer m.trades
joined c =
    let i = c.loop-trades.invariant in
    let g = c.command_at-reading.result in
    let ready = (going i.0).ready in
    elim c.match-reading.branch [
      | in-Call a ↦
          rw (a.run-is, a.trades-is, a.answer-is)
          (record {
            line = refl;
            filled = refl;
            over = refl;
            follows = follows_call _ ready i.0.sound g.says g.members _ i.1 _ _ _ _ a.in-Call.is a.call_in_place-answer.ensures;
          })
      | in_default a ↦
          rw (a.run-is, a.trades-is, a.answer-is, a.from-answer.ensures)
          (record {
            line = refl;
            filled = refl;
            over = refl;
            follows = follows_none _ ready i.0.sound g.says g.members _ (not_call _ a.in_default.not-Call);
          })
    ]

pub put_command-requires-clause-room_in_bounds : goal.put_command-requires-clause-room_in_bounds
put_command-requires-clause-room_in_bounds c =
    let j = joined (goal.at.put_command-requires-clause-room_in_bounds c).Joined-reading in
    rw j.filled (goes_on_both _ _ _ _ (sym c.goes_on.ensures ∙ c.loop-trades-test.true)).1

pub put_command-requires-clause-answer_bound : goal.put_command-requires-clause-answer_bound
put_command-requires-clause-answer_bound c =
    let j = joined (goal.at.put_command-requires-clause-answer_bound c).Joined-reading in
    let does = j.follows.does in
    omega (arith, does.trades, does.few)

pub overflow_add-run : goal.overflow_add-run
overflow_add-run c =
    let j = joined (goal.at.overflow_add-run c).Joined-reading in
    let g = c.loop-trades.invariant.0.onward.going in
    let few = lines_few c.command_at-reading.ensures in
    omega (arith, j.line, few, g.line, g.inside, g.short)

pub loop-trades-smaller : goal.loop-trades-smaller
loop-trades-smaller c =
    let goes = goes_on_both _ _ _ _ (sym c.goes_on.ensures ∙ c.loop-trades-test.true) in
    let forward = c.command_at-reading.ensures.forward goes.0 in
    omega (arith, forward.0, forward.1)

pub loop-trades-preserved : goal.loop-trades-preserved
loop-trades-preserved c =
    let i = c.loop-trades.invariant in
    let j = joined (goal.at.loop-trades-preserved c).Joined-reading in
    let goes = goes_on_both _ _ _ _ (sym c.goes_on.ensures ∙ c.loop-trades-test.true) in
    let puts = c.put_command.ensures in (
      further_next i.0 c.command_at-reading.result goes.0 goes.1 c.command_at-reading.ensures j puts,
      j.follows.does.size ∙ i.1,
      omega (arith, puts.size, i.2),
    )

pub returns-then-out-run : goal.returns-then-out-run
returns-then-out-run c =
    let i = c.loop-trades.invariant in
    prints_none (begins_on c.begin-run.ensures c.if-run.false i.0) i.0.still
    (omega (arith, c.if-out-run.true, i.2))

pub returns : goal.returns
returns c =
    let i = c.loop-trades.invariant in
    prints_all c.begin-run.ensures c.if-run.false i.0 (sym c.goes_on.ensures ∙ c.loop-trades-test.false)
    (omega (arith, c.if-out-run.false, i.2)) c.last_lines.ensures
