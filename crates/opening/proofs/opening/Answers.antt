-- `opening::opening` meets its contract: 17, then 18 with the place of the first wrong row, then 23 where a nominal is wrong,
-- then 22, then 24, then the opened ledger.
use Rattle.std.proofs.Common.{◌≡◌, ◌≤◌, ℕ, true, refl, ◌∙◌}
use borrow.Author.Tests.{le-leb, lt-leb}
use Rattle.market.specs.Limits.{max_securities}
use Rattle.market.specs.Sound.{counts_sound}
use Rattle.market.proofs.Logic.{and_true, within_high}
use Rattle.market.proofs.Opening.{nominals_left}
use Rattle.amounts.proofs.Answers.{fails, holds}
use Rattle.opening.proofs.Opens.{opens_counts, opens_date, opens_ledger, opens_nominal, opens_rate, opens_row}
use Rattle.opening.proofs.opening.Goals as goal

few : (participants currencies securities : ℕ) → counts_sound participants currencies securities ≡ true
    → securities ≤ max_securities
unfolding counts_sound
few p k s e = within_high 1 max_securities s (and_true (and_true e).1).1

pub returns-then-not-counts_sound : goal.returns-then-not-counts_sound
returns-then-not-counts_sound c =
    opens_counts _ _ _ (fails c.counts_sound.ensures c.if-not-counts_sound.true)
    (rw c.number.ensures at c.refused_opening.ensures)

pub first_wrong-requires : goal.first_wrong-requires
first_wrong-requires c = few _ _ _ (holds c.counts_sound.ensures c.if-not-counts_sound.false)

pub returns-in-Some : goal.returns-in-Some
returns-in-Some c =
    opens_row _ _ _ _ (holds c.counts_sound.ensures c.if-not-counts_sound.false) c.in-Some.ensures.1 c.in-Some.ensures.0
    (rw c.number-in-Some.ensures at c.refused_opening-in-Some.ensures)

pub table_sound-requires : goal.table_sound-requires
table_sound-requires c = few _ _ _ (holds c.counts_sound.ensures c.if-not-counts_sound.false)

pub returns-then-not-table_sound : goal.returns-then-not-table_sound
returns-then-not-table_sound c =
    opens_nominal _ _ _ (holds c.counts_sound.ensures c.if-not-counts_sound.false) c.in_default.ensures
    (fails (c.table_sound.ensures ∙ nominals_left _ c.in_default.ensures) c.if-not-table_sound.true)
    (rw c.number-then-not-table_sound.ensures at c.refused_opening-then-not-table_sound.ensures)

pub returns-then-rules-gt-MAX_RATE : goal.returns-then-rules-gt-MAX_RATE
returns-then-rules-gt-MAX_RATE c =
    opens_rate _ _ _ (holds c.counts_sound.ensures c.if-not-counts_sound.false) c.in_default.ensures
    (holds (c.table_sound.ensures ∙ nominals_left _ c.in_default.ensures) c.if-not-table_sound.false)
    (lt-leb _ _ c.if-rules-gt-MAX_RATE.true)
    (rw c.number-then-rules-gt-MAX_RATE.ensures at c.refused_opening-then-rules-gt-MAX_RATE.ensures)

pub returns-then-date-gt-LAST_DAY : goal.returns-then-date-gt-LAST_DAY
returns-then-date-gt-LAST_DAY c =
    opens_date _ _ _ (holds c.counts_sound.ensures c.if-not-counts_sound.false) c.in_default.ensures
    (holds (c.table_sound.ensures ∙ nominals_left _ c.in_default.ensures) c.if-not-table_sound.false)
    (le-leb _ _ c.if-rules-gt-MAX_RATE.false) (lt-leb _ _ c.if-date-gt-LAST_DAY.true)
    (rw c.number-then-date-gt-LAST_DAY.ensures at c.refused_opening-then-date-gt-LAST_DAY.ensures)

pub returns : goal.returns
returns c =
    opens_ledger _ _ _ (holds c.counts_sound.ensures c.if-not-counts_sound.false) c.in_default.ensures
    (holds (c.table_sound.ensures ∙ nominals_left _ c.in_default.ensures) c.if-not-table_sound.false)
    (le-leb _ _ c.if-rules-gt-MAX_RATE.false) (le-leb _ _ c.if-date-gt-LAST_DAY.false)
    refl c.opened.ensures.result_value
