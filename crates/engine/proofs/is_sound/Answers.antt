-- `engine::is_sound` meets its contract: the day's soundness, then that of the records.
use mathlib.Core.Path.{sym, ◌∙◌}
use Rattle.market.specs.View.{view}
use Rattle.amounts.proofs.Answers.{fails, holds}
use Rattle.engine.proofs.Joined.{by_records, day_unsound, rules_hold}
use Rattle.engine.proofs.is_sound.Goals as goal

pub records_sound-requires : goal.records_sound-requires
records_sound-requires c =
    rules_hold (view c.args.s.now) c.args.s.now.records (holds c.floor_sound.ensures c.if-floor_sound.true)

pub returns-then-floor_sound : goal.returns-then-floor_sound
returns-then-floor_sound c =
    c.records_sound.ensures
    ∙ sym (by_records (view c.args.s.now) c.args.s.now.records (holds c.floor_sound.ensures c.if-floor_sound.true))

pub returns-else-floor_sound : goal.returns-else-floor_sound
returns-else-floor_sound c =
    rw c.if-floor_sound.false
    (day_unsound (view c.args.s.now) c.args.s.now.records (fails c.floor_sound.ensures c.if-floor_sound.false))
