-- `deals::deal_sound` meets its contract: field by field.
use native.Mathlib.Omega.{arith}
use mathlib.Core.Path.{◌≡◌, ap, ◌∙◌}
use mathlib.Core.Bool.{true}
use Prim.Native.Nat.{ℕ, ◌≤◌}
use Rattle.market.specs.declared.Deal.{Deal}
use Rattle.market.specs.Limits.{max_lots, max_price}
use Rattle.market.specs.Tests.{◌and◌, known}
use Rattle.market.specs.Sound.{lots_sound, price_sound}
use Rattle.market.specs.Deals.{loan_sound, term_sound}
use Rattle.market.proofs.Logic.{within_high}
use Rattle.market.proofs.Known.{price_bounds}
use Rattle.amounts.proofs.Answers.{fails, holds}
use Rattle.deals.proofs.Ages.{knows, unknown}
use Rattle.deals.proofs.deal_sound.Goals.{After-price_sound, After-term_sound, After-within, Else-not-price_sound, Else-not-within, Else-participants-from, Else-participants-from-2, Start}
use Rattle.deals.proofs.deal_sound.Goals as goal

pub returns-then-participants-from : goal.returns-then-participants-from
unfolding ◌and◌
returns-then-participants-from c = rw (unknown c.from.ensures c.if-participants-from.true)

abbrev start : Else-participants-from → Start
start c = c.before.before

abbrev deal : Start → Deal
deal c = c.args.deal

buyer : (c : Else-participants-from) → known (deal (start c)).buyer (start c).args.participants ≡ true
buyer c = knows c.from.ensures c.if-participants-from.false

pub returns-then-participants-from-2 : goal.returns-then-participants-from-2
unfolding ◌and◌
returns-then-participants-from-2 c = rw (buyer c.before.before, unknown c.from-2.ensures c.if-participants-from-2.true)

abbrev one : Else-participants-from-2 → Else-participants-from
one c = c.before.before

seller : (c : Else-participants-from-2) → known (deal (start (one c))).seller (start (one c)).args.participants ≡ true
seller c = knows c.from-2.ensures c.if-participants-from-2.false

abbrev two : After-within → Else-participants-from-2
two c = c.before.before

sized : (c : After-within) → c.within.result ≡ lots_sound (deal (start (one (two c)))).lots
sized c = c.within.ensures ∙ ap (λ (n : ℕ). lots_sound n) c.from-lots.ensures

pub returns-then-not-within : goal.returns-then-not-within
unfolding ◌and◌
returns-then-not-within c =
    let k = two c.before in
    rw (buyer (one k), seller k, fails (sized c.before) c.if-not-within.true)

lots : (c : Else-not-within) → lots_sound (deal (start (one (two c.before)))).lots ≡ true
lots c = holds (sized c.before) c.if-not-within.false

abbrev three : After-price_sound → Else-not-within
three c = c.before.before

abbrev begin : Else-not-within → Start
begin c = start (one (two c.before))

priced : (c : After-price_sound)
    → c.price_sound.result ≡ price_sound (begin (three c)).args.row (deal (begin (three c))).price
priced c = c.price_sound.ensures ∙ ap (price_sound (begin (three c)).args.row) c.from-price.ensures

pub returns-then-not-price_sound : goal.returns-then-not-price_sound
unfolding ◌and◌
returns-then-not-price_sound c =
    let t = three c.before in
    let k = two t.before in
    rw (buyer (one k), seller k, lots t, fails (priced c.before) c.if-not-price_sound.true)

price : (c : Else-not-price_sound) → price_sound (begin (three c.before)).args.row (deal (begin (three c.before))).price ≡ true
price c = holds (priced c.before) c.if-not-price_sound.false

abbrev four : After-term_sound → Else-not-price_sound
four c = c.before.before.before

abbrev from : After-term_sound → Start
from c = begin (three (four c).before)

timed : (c : After-term_sound) → c.term_sound.result ≡ term_sound (deal (from c)).first (deal (from c)).term
timed c =
    c.term_sound.ensures
    ∙ ap (λ (n : ℕ). term_sound n c.from-4.result) c.from-3.ensures
    ∙ ap (λ (n : ℕ). term_sound (deal (from c)).first n) c.from-4.ensures

pub returns-then-not-term_sound : goal.returns-then-not-term_sound
unfolding ◌and◌
returns-then-not-term_sound c =
    let f = four c.before in
    let t = three f.before in
    let k = two t.before in
    rw (buyer (one k), seller k, lots t, price f, fails (timed c.before) c.if-not-term_sound.true)

pub loan_sound-requires : goal.loan_sound-requires
loan_sound-requires c =
    let f = four c.before.before in
    let t = three f.before in
    let x = deal (begin t) in
    let top : x.lots ≤ max_lots = within_high 1 max_lots x.lots (lots t) in
    let most : x.price ≤ max_price = (price_bounds _ _ (price f)).1 in
    let pre = (begin t).requires in
    (pre.1, pre.2, omega (arith, f.from-price.ensures), omega (arith, t.from-lots.ensures))

pub returns : goal.returns
unfolding ◌and◌
returns c =
    let f = four c.before.before.before in
    let t = three f.before in
    let k = two t.before in
    let a = (begin t).args in
    let x = deal (begin t) in
    rw (buyer (one k), seller k, lots t, price f, holds (timed c.before.before.before) c.if-not-term_sound.false)
    (c.loan_sound.ensures
    ∙ ap (λ (n : ℕ). loan_sound a.row n t.from-lots.result c.from-5.result) f.from-price.ensures
    ∙ ap (λ (n : ℕ). loan_sound a.row x.price n c.from-5.result) t.from-lots.ensures
    ∙ ap (λ (n : ℕ). loan_sound a.row x.price x.lots n) c.from-5.ensures)
