-- `script::records::rules_sound` meets its contract: counts, table and rate are all that sound rules ask.
use Rattle.std.proofs.Common.{sym, ◌∙◌}
use Rattle.market.specs.Sound.{rules_sound}
use Rattle.market.proofs.Logic.{both, never}
use Rattle.market.proofs.Known.{rules_ok_lem}
use Rattle.soundness.proofs.Parts.{few_securities}
use Rattle.script.proofs.records.rules_sound.Goals.{else-counts_sound, then-counts_sound}
use Rattle.script.proofs.records.rules_sound.Goals as goal

pub table_sound-requires : goal.table_sound-requires
table_sound-requires c = few_securities _ _ _ (sym c.counts_sound.ensures ∙ c.if-counts_sound.true)

pub returns-then-table_sound : goal.returns-then-table_sound
unfolding rules_sound
returns-then-table_sound c =
    elim c.if-counts_sound.branch [
      | then-counts_sound w ↦
          λ h.
          rules_ok_lem _
          (both (sym c.counts_sound.ensures ∙ w.if-counts_sound.true)
          (both (sym w.table_sound.ensures ∙ sym w.value-is ∙ c.if-table_sound.true) h))
      | else-counts_sound w ↦ never (sym w.if-counts_sound.false ∙ sym w.value-is ∙ c.if-table_sound.true)
    ]
