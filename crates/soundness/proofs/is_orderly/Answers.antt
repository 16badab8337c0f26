-- `soundness::is_orderly` meets its contract: a part is false where its test fails, true where the next is asked.
use borrow.Author.Tests.{le-leb, lt-leb}
use native.Mathlib.Omega.{arith}
use Prim.Native.Nat.{◌≤◌}
use mathlib.Core.Path.{◌≡◌, ◌∙◌}
use mathlib.Core.Bool.{Bool}
use lib.ListN.{length, take}
use Rattle.std.specs.List.{list_all}
use Rattle.market.specs.Limits.{max_own_codes}
use Rattle.market.specs.Codes.{codes_sound}
use Rattle.market.specs.Day.{Day}
use Rattle.market.specs.View.{day_of}
use Rattle.market.specs.Tests.{◌and◌, ◌≤?◌}
use Rattle.market.proofs.Codes.{codes_top, codes_within}
use Rattle.soundness.proofs.Below.{all_first}
use Rattle.market.proofs.View.{first_length}
use Rattle.amounts.proofs.Answers.{fails, holds}
use Rattle.soundness.specs.Parts.{orderly}
use Rattle.soundness.proofs.Parts.{few_participants, few_securities}
use Rattle.soundness.proofs.is_orderly.Goals as goal

pub returns-then-floor-gt-MAX_WAITING : goal.returns-then-floor-gt-MAX_WAITING
unfolding orderly ◌and◌
returns-then-floor-gt-MAX_WAITING c =
    rw (first_length, lt-leb _ _ c.if-floor-gt-MAX_WAITING.true)

pub returns-then-not-counts_sound : goal.returns-then-not-counts_sound
unfolding orderly ◌and◌
returns-then-not-counts_sound c =
    rw (first_length, le-leb _ _ c.if-floor-gt-MAX_WAITING.false, fails c.counts_sound.ensures c.if-not-counts_sound.true)

pub table_sound-requires : goal.table_sound-requires
table_sound-requires c = few_securities _ _ _ (holds c.counts_sound.ensures c.if-not-counts_sound.false)

pub returns-then-not-table_sound : goal.returns-then-not-table_sound
unfolding orderly ◌and◌
returns-then-not-table_sound c =
    rw (
      first_length,
      le-leb _ _ c.if-floor-gt-MAX_WAITING.false,
      holds c.counts_sound.ensures c.if-not-counts_sound.false,
      fails c.table_sound.ensures c.if-not-table_sound.true,
    )

pub returns-then-rules-gt-MAX_RATE : goal.returns-then-rules-gt-MAX_RATE
unfolding orderly ◌and◌
returns-then-rules-gt-MAX_RATE c =
    rw (
      first_length,
      le-leb _ _ c.if-floor-gt-MAX_WAITING.false,
      holds c.counts_sound.ensures c.if-not-counts_sound.false,
      holds c.table_sound.ensures c.if-not-table_sound.false,
      lt-leb _ _ c.if-rules-gt-MAX_RATE.true,
    )

pub shared_ref_as_front-codes_sound : goal.shared_ref_as_front-codes_sound
shared_ref_as_front-codes_sound c =
    few_participants _ _ _ (holds c.counts_sound.ensures c.if-not-counts_sound.false)

-- the counts that are known, as the definition asks of them
right : (d : Day) {answer : Bool} → answer ≡ list_all (λ own. own ≤? max_own_codes) (take d.rules.participants d.codes)
    → d.rules.participants ≤ length d.codes → answer ≡ codes_sound d
right d e few = e ∙ all_first (λ own. own ≤? max_own_codes) 0 d.codes d.rules.participants few

pub returns-then-not-codes_sound : goal.returns-then-not-codes_sound
unfolding orderly ◌and◌
returns-then-not-codes_sound c =
    let few = few_participants _ _ _ (holds c.counts_sound.ensures c.if-not-counts_sound.false) in
    rw (
      first_length,
      le-leb _ _ c.if-floor-gt-MAX_WAITING.false,
      holds c.counts_sound.ensures c.if-not-counts_sound.false,
      holds c.table_sound.ensures c.if-not-table_sound.false,
      le-leb _ _ c.if-rules-gt-MAX_RATE.false,
      fails (right (day_of c.args.rules.now c.args.floor.now) c.codes_sound.ensures (omega arith)) c.if-not-codes_sound.true,
    )

pub given-requires : goal.given-requires
given-requires c =
    let few = few_participants _ _ _ (holds c.counts_sound.ensures c.if-not-counts_sound.false) in
    (few, codes_within _ _ (holds (right (day_of c.args.rules.now c.args.floor.now) c.codes_sound.ensures (omega arith)) c.if-not-codes_sound.false) (omega arith))

pub turnovers_sound-requires : goal.turnovers_sound-requires
turnovers_sound-requires c =
    let few = few_participants _ _ _ (holds c.counts_sound.ensures c.if-not-counts_sound.false) in
    let within = codes_within _ _ (holds (right (day_of c.args.rules.now c.args.floor.now) c.codes_sound.ensures (omega arith)) c.if-not-codes_sound.false) (omega arith) in (
      omega (arith, c.given.ensures, codes_top _ _ few within),
      few_securities _ _ _ (holds c.counts_sound.ensures c.if-not-counts_sound.false),
    )

pub returns : goal.returns
unfolding orderly ◌and◌
returns c =
    let few = few_participants _ _ _ (holds c.counts_sound.ensures c.if-not-counts_sound.false) in
    rw (
      first_length,
      le-leb _ _ c.if-floor-gt-MAX_WAITING.false,
      holds c.counts_sound.ensures c.if-not-counts_sound.false,
      holds c.table_sound.ensures c.if-not-table_sound.false,
      le-leb _ _ c.if-rules-gt-MAX_RATE.false,
      holds (right (day_of c.args.rules.now c.args.floor.now) c.codes_sound.ensures (omega arith)) c.if-not-codes_sound.false,
      ← c.given.ensures,
    ) c.turnovers_sound.ensures
