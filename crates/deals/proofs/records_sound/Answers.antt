-- `deals::records_sound` meets its contract: the deals before place `i` are sound, and by age up to `last`.
use native.Mathlib.Omega.{arith}
use mathlib.Core.Path.{◌∙◌}
use Rattle.market.proofs.Known.{rules_ok_lem}
use Rattle.amounts.proofs.Answers.{fails, holds}
use Rattle.deals.proofs.Ages.{aged_done, aged_next, aged_none, known_deal, late, many, unknown_deal, unsound, younger}
use Rattle.deals.proofs.records_sound.Goals as goal

pub returns-then-records-gt-LAST_DAY : goal.returns-then-records-gt-LAST_DAY
returns-then-records-gt-LAST_DAY c =
    late _ _ c.args.records.now.count c.args.records.now.deals c.if-records-gt-LAST_DAY.true

pub returns-then-records-gt-MAX_DEALS : goal.returns-then-records-gt-MAX_DEALS
returns-then-records-gt-MAX_DEALS c =
    many _ _ c.args.records.now.count c.args.records.now.deals c.if-records-gt-MAX_DEALS.true

pub loop-i-init : goal.loop-i-init
loop-i-init c = aged_none _ _ _ _

pub returns-then-first-last : goal.returns-then-first-last
returns-then-first-last c =
    younger _ _ _ _ record { day = c.if-records-gt-LAST_DAY.false; few = c.if-records-gt-MAX_DEALS.false } _ _
    c.loop-i.invariant c.loop-i-test.true _ c.from-first.ensures c.if-first-last.true

pub returns-then-rules-security : goal.returns-then-rules-security
returns-then-rules-security c =
    unsound _ _ _ _ record { day = c.if-records-gt-LAST_DAY.false; few = c.if-records-gt-MAX_DEALS.false } _ _
    c.loop-i.invariant c.loop-i-test.true (unknown_deal _ _ _ c.from-security.ensures c.if-rules-security.true)

pub offset_bounds-rules-security : goal.offset_bounds-rules-security
offset_bounds-rules-security c = let ok = rules_ok_lem _ c.requires in omega (arith, ok.securities, c.if-rules-security.false)

pub bounds-rules-security : goal.bounds-rules-security
bounds-rules-security c = let ok = rules_ok_lem _ c.requires in omega (arith, ok.securities, c.if-rules-security.false)

pub deal_sound-requires : goal.deal_sound-requires
deal_sound-requires c =
    let ok = rules_ok_lem _ c.requires in
    (ok.step _ c.if-rules-security.false, ok.lot _ c.if-rules-security.false, ok.nominal _ c.if-rules-security.false)

pub returns-then-not-deal_sound : goal.returns-then-not-deal_sound
returns-then-not-deal_sound c =
    unsound _ _ _ _ record { day = c.if-records-gt-LAST_DAY.false; few = c.if-records-gt-MAX_DEALS.false } _ _
    c.loop-i.invariant c.loop-i-test.true
    (known_deal _ _ _ c.from-security.ensures c.if-rules-security.false ∙ fails c.deal_sound.ensures c.if-not-deal_sound.true)

pub loop-i-preserved : goal.loop-i-preserved
loop-i-preserved c =
    aged_next _ _ _ _ record { day = c.if-records-gt-LAST_DAY.false; few = c.if-records-gt-MAX_DEALS.false } _ _
    c.loop-i.invariant c.loop-i-test.true _ c.from-first.ensures c.if-first-last.false
    (known_deal _ _ _ c.from-security.ensures c.if-rules-security.false ∙ holds c.deal_sound.ensures c.if-not-deal_sound.false)

pub returns : goal.returns
returns c =
    aged_done _ _ _ _ record { day = c.if-records-gt-LAST_DAY.false; few = c.if-records-gt-MAX_DEALS.false } _ _
    c.loop-i.invariant c.loop-i-test.false
