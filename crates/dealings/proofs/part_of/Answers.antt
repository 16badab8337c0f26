-- `dealings::part_of` meets its contract: the deal's numbers are widened, and what it costs is reckoned.
use native.Mathlib.Omega.{arith}
use Prim.Native.Nat.{ℕ}
use mathlib.Core.Path.{◌≡◌, ap, ◌∙◌}
use Rattle.market.specs.declared.Deal.{Deal}
use Rattle.market.specs.declared.Rules.{Rules}
use Rattle.market.specs.Day.{row}
use Rattle.market.specs.Needs.{sum_for}
use Rattle.market.specs.Deals.{first_sum}
use Rattle.market.proofs.Deals.{deal_ok}
use Rattle.market.proofs.Known.{price_bounds}
use Rattle.dealings.proofs.Second.{part_is}
use Rattle.dealings.proofs.part_of.Goals as goal

-- the first sum is the deal's
first_is : (r : Rules) (d : Deal) {security lots price sum : ℕ} → security ≡ d.security → lots ≡ d.lots → price ≡ d.price
    → sum ≡ sum_for (row r security) price lots → sum ≡ first_sum r d
first_is r d {security} {lots} {price} s l p e =
    e
    ∙ ap (λ (n : ℕ). sum_for (row r n) price lots) s
    ∙ ap (λ (n : ℕ). sum_for (row r d.security) n lots) p
    ∙ ap (λ (n : ℕ). sum_for (row r d.security) d.price n) l

pub bounds-rules-security : goal.bounds-rules-security
bounds-rules-security c =
    omega (arith, c.from-security.ensures, (deal_ok c.args.rules.now c.args.deal c.requires.1).security, c.requires.0.securities)

pub sum_for-sum-requires : goal.sum_for-sum-requires
sum_for-sum-requires c =
    let ok = c.requires.0 in
    let d = deal_ok c.args.rules.now c.args.deal c.requires.1 in
    rw c.from-security.ensures (
      ok.lot _ d.security,
      ok.nominal _ d.security,
      omega (arith, c.from.ensures, (price_bounds _ _ d.price).1),
      omega (arith, c.from-lots.ensures, d.top),
    )

pub overflow_add-result : goal.overflow_add-result
overflow_add-result c =
    omega (arith, c.from-term.ensures, c.from-first.ensures, (deal_ok c.args.rules.now c.args.deal c.requires.1).due)

pub pieces_of-requires : goal.pieces_of-requires
pieces_of-requires c =
    let d = deal_ok c.args.rules.now c.args.deal c.requires.1 in
    rw c.from-security.ensures (c.requires.0.lot _ d.security, omega (arith, c.from-lots.ensures, d.top))

pub second_sum-requires : goal.second_sum-requires
second_sum-requires c =
    let d = deal_ok c.args.rules.now c.args.deal c.requires.1 in (
      omega (arith, (first_is c.args.rules.now c.args.deal c.from-security.ensures c.from-lots.ensures c.from.ensures c.sum_for-sum.ensures), d.sum),
      omega (arith, c.from-4.ensures, d.rate),
      omega (arith, c.from-term.ensures, d.longest),
      omega (arith, c.from-term.ensures, c.from-first.ensures, d.due),
    )

pub returns : goal.returns
returns c =
    let a = c.args in
    part_is a.rules.now a.deal c.from-2.ensures c.from-3.ensures c.from-security.ensures c.from-lots.ensures
    c.from-first.ensures c.from-term.ensures c.from-4.ensures (first_is c.args.rules.now c.args.deal c.from-security.ensures c.from-lots.ensures c.from.ensures c.sum_for-sum.ensures)
    c.pieces_of.ensures c.second_sum.ensures
