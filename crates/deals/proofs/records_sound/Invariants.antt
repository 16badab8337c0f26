-- `deals::records_sound` meets its contract: the deals before place `i` are sound, and by age up to `last`.
use Rattle.deals.proofs.Ages.{Aged}
use Rattle.deals.proofs.records_sound.Given as goal

abbrev pub invariant-loop-i : goal.invariant-loop-i
invariant-loop-i l = Aged l.rules l.records.date l.records.count l.records.deals l.last l.i
