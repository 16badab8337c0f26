-- `engine::deal_in_place` meets its contract: question 1, then the act.
use Rattle.amounts.proofs.Answers.{fails, holds}
use Rattle.engine.proofs.Joined.{act_does, refuse_unsound}
use Rattle.engine.proofs.deal_in_place.Goals as goal

pub returns-then-not-is_sound : goal.returns-then-not-is_sound
returns-then-not-is_sound c =
    rw c.from.ensures (refuse_unsound _ _ _ (fails c.is_sound.ensures c.if-not-is_sound.true))

pub carry_out-requires : goal.carry_out-requires
carry_out-requires c =
    record { sized = c.sized.ensures; sound = holds c.is_sound.ensures c.if-not-is_sound.false }

pub returns : goal.returns
returns c = act_does c.args.s.now _ _ c.carry_out.ensures
