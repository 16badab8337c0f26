-- `dealings::new_day` meets its contract: the phase, the date, then the day begins.
use Rattle.amounts.proofs.Answers.{fails, holds}
use Rattle.dealings.proofs.Second.{day_begins, day_far, day_past, day_phase}
use Rattle.dealings.proofs.new_day.Goals.{then-date-records-via-then-date-records, then-date-records-via-else-date-records+then-date-gt-LAST_DAY}
use Rattle.dealings.proofs.new_day.Goals as goal

pub returns-then-not-admits : goal.returns-then-not-admits
returns-then-not-admits c =
    rw c.from.ensures
    (λ r v ready. day_phase r _ _ ready _ v (fails c.admits.ensures c.if-not-admits.true))

pub returns-then-date-records : goal.returns-then-date-records
returns-then-date-records c =
    rw c.from-then-date-records.ensures
    (λ r v ready.
    let closed = holds c.admits.ensures c.if-not-admits.false in
    elim c.then-date-records.branch [
      | then-date-records-via-then-date-records w ↦ day_past r _ _ ready _ v closed w.if-date-records.true
      | then-date-records-via-else-date-records+then-date-gt-LAST_DAY w ↦
          day_far r _ _ ready _ v closed w.if-date-records.false w.if-date-gt-LAST_DAY.true
    ])

pub returns : goal.returns
returns c =
    λ r v ready.
    day_begins r _ _ ready _ v (holds c.admits.ensures c.if-not-admits.false) c.if-date-records.false c.if-date-gt-LAST_DAY.false
