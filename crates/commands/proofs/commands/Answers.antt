-- `commands::commands` meets its contract: a command after another, as long as the buffer has room.
use native.Mathlib.Omega.{arith}
use mathlib.Core.Path.{sym, ◌∙◌}
use Rattle.market.specs.View.{day_of}
use Rattle.reading.proofs.Tags.{not_call}
use Rattle.commands.specs.Command.{Does, carried}
use Rattle.commands.proofs.Placing.{command_next, lines_few, onward_then}
use Rattle.commands.proofs.Carrying.{does_call, does_wrong, goes_on_both, no_call}
use Rattle.commands.proofs.commands.Goals.{Joined-reading, in-Call, in_default}
use Rattle.commands.proofs.commands.Goals as goal

-- what the command did, with a call and without
joined : (c : Joined-reading) →
    let l = c.loop-trades in
    let g = c.command_at-reading.result in
    let r = c.args.rules.now in
    let m = c.match-reading in
    Does (carried (day_of r l.floor) g.says g.members) r l.trades m.floor m.trades m.answer
unfolding carried
joined c =
    let i = c.loop-trades.invariant in
    let ready = i.0.going.ready in
    elim c.match-reading.branch [
      | in-Call a ↦
          rw (a.floor-is, a.trades-is, a.answer-is, a.in-Call.is)
          (does_call _ _ _ _ _ _ _ ready i.1 a.carry_out-answer.ensures)
      | in_default a ↦
          rw (a.floor-is, a.trades-is, a.answer-is, a.from-answer.ensures, no_call _ _ _ (not_call _ a.in_default.not-Call))
          (does_wrong _ _ _ ready)
    ]

pub put_command-requires-clause-room_in_bounds : goal.put_command-requires-clause-room_in_bounds
put_command-requires-clause-room_in_bounds c =
    (goes_on_both _ _ _ _ (sym c.goes_on.ensures ∙ c.loop-trades-test.true)).1

pub put_command-requires-clause-answer_bound : goal.put_command-requires-clause-answer_bound
put_command-requires-clause-answer_bound c =
    let j = joined (goal.at.put_command-requires-clause-answer_bound c).Joined-reading in
    omega (arith, j.trades, j.few)

pub overflow_add-stand : goal.overflow_add-stand
overflow_add-stand c =
    let g = c.loop-trades.invariant.0.going in
    let few = lines_few c.command_at-reading.ensures in
    omega (arith, few, g.line, g.inside, g.short)

pub loop-trades-smaller : goal.loop-trades-smaller
loop-trades-smaller c =
    let goes = goes_on_both _ _ _ _ (sym c.goes_on.ensures ∙ c.loop-trades-test.true) in
    let forward = c.command_at-reading.ensures.forward goes.0 in
    omega (arith, forward.0, forward.1)

pub loop-trades-preserved : goal.loop-trades-preserved
loop-trades-preserved c =
    let i = c.loop-trades.invariant in
    let j = joined (goal.at.loop-trades-preserved c).Joined-reading in
    let goes = goes_on_both _ _ _ _ (sym c.goes_on.ensures ∙ c.loop-trades-test.true) in
    let next =
    command_next _ _ _ _ _ _ _ _ _ c.command_at-reading.result _ _ i.0.going goes.0 goes.1
    c.command_at-reading.ensures j c.put_command.ensures in
    (onward_then i.0 next, j.size ∙ i.1, omega (arith, next.size, i.2))
