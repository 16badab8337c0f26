-- `reserves::increase` meets its contract: what is free is within the total, and that with the amount within the limit.
use Rattle.std.proofs.Common.{◌≡◌, ◌<◌, ℕ, ap, arith}
use Rattle.std.proofs.lemmas.Grind.{common_steps}
use Rattle.market.specs.Day.{cell, columns_of, position}
use Rattle.market.specs.Positions.{total}
use Rattle.market.proofs.Totals.{sum_part}
use Rattle.reserves.proofs.increase.Goals as goal

pub receive-requires : goal.receive-requires
receive-requires c =
    let a = c.args in
    let known : a.participant < a.rules.now.participants = grind (arith, common_steps) in
    let inside : a.column < columns_of a.asset a.rules.now = grind (arith, common_steps) in
    let held : ℕ → ℕ = λ q. total (position a.positions.now (cell q a.column)) in
    let part = sum_part held a.rules.now.participants a.participant known in
    let here : total (position a.positions.now c.cell_of.result) ≡ held a.participant =
    ap (λ (x : ℕ). total (position a.positions.now x)) c.cell_of.ensures in
    let top = c.requires.topped a.column inside in
    (omega arith, omega (arith, c.requires.bounded.low), omega (arith, c.requires.bounded.low))
