-- `engine::call_in_place` meets its contract: question 1, then the call, which leaves the records alone.
use Rattle.market.specs.Ledger.{whole}
use Rattle.market.proofs.Acts.{ledger_day}
use Rattle.amounts.proofs.Answers.{fails, holds}
use Rattle.engine.proofs.Joined.{act_does, carries_lifted, refuse_unsound}
use Rattle.engine.proofs.call_in_place.Goals as goal

pub returns-then-not-is_sound : goal.returns-then-not-is_sound
returns-then-not-is_sound c =
    rw c.from.ensures (refuse_unsound _ _ _ (fails c.is_sound.ensures c.if-not-is_sound.true))

pub carry_out-requires : goal.carry_out-requires
carry_out-requires c =
    record {
      sized = c.sized.ensures;
      sound = ledger_day (whole c.args.s.now) (holds c.is_sound.ensures c.if-not-is_sound.false);
    }

pub returns : goal.returns
returns c =
    let s = c.args.s.now in
    act_does s _ _
    (carries_lifted s.rules s.floor s.records _ _ (holds c.is_sound.ensures c.if-not-is_sound.false) c.carry_out.ensures)
