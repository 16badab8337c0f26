-- `opening::first_wrong` meets its contract, row by row.
use Rattle.std.proofs.Common.{◌≡◌, ℕ, suc, ◌<◌, ◌-◌, ◌+◌, add-one, ap, arith, false, sym, true, ◌∙◌}
use Rattle.market.specs.declared.Rules.{Rules}
use Rattle.market.specs.Day.{row}
use Rattle.market.specs.Sound.{row_sound}
use Rattle.market.specs.Opening.{first_wrong}
use Rattle.amounts.proofs.Answers.{fails, holds}
use Rattle.opening.proofs.first_wrong.Goals as goal

-- the first wrong row of those from i on, where i is wrong, and where it is right
wrong-here : (r : Rules) (n i : ℕ) → i < n → row_sound r.currencies (row r i) ≡ false
    → first_wrong r (n - i) i ≡ i + 1
unfolding first_wrong
wrong-here r n i h e =
    let one : n - i ≡ suc (n - (i + 1)) = omega arith in
    rw (one, e) (sym (add-one i))

right-here : (r : Rules) (n i : ℕ) → i < n → row_sound r.currencies (row r i) ≡ true
    → first_wrong r (n - i) i ≡ first_wrong r (n - (i + 1)) (i + 1)
unfolding first_wrong
right-here r n i h e =
    let one : n - i ≡ suc (n - (i + 1)) = omega arith in
    rw (one, e) (ap (first_wrong r (n - (i + 1))) (sym (add-one i)))

pub loop-i-init : goal.loop-i-init
loop-i-init c =
    let whole : c.args.rules.now.securities - 0 ≡ c.args.rules.now.securities = omega arith in
    rw whole

pub returns-then-not-row_sound : goal.returns-then-not-row_sound
returns-then-not-row_sound c =
    (omega arith, c.loop-i.invariant ∙ wrong-here _ _ _ c.loop-i-test.true (fails c.row_sound.ensures c.if-not-row_sound.true))

pub loop-i-preserved : goal.loop-i-preserved
loop-i-preserved c =
    c.loop-i.invariant ∙ right-here _ _ _ c.loop-i-test.true (holds c.row_sound.ensures c.if-not-row_sound.false)

pub returns : goal.returns
unfolding first_wrong
returns c =
    let none : c.args.rules.now.securities - c.loop-i.i ≡ 0 = omega arith in
    c.loop-i.invariant ∙ rw none
