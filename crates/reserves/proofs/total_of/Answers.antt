-- `reserves::total_of` meets its contract: with what each participant holds, the sum stays within the total.
use Rattle.std.proofs.Common.{ℕ, ◌≡◌, ◌≤◌, ◌+◌, List, ap, arith}
use Rattle.market.specs.Limits.{money_limit}
use Rattle.market.specs.Day.{cell, position}
use Rattle.market.specs.Positions.{total}
use Rattle.market.proofs.Totals.{sum_part}
use Rattle.reserves.proofs.total_of.Goals.{After-cell_of}
use Rattle.reserves.proofs.total_of.Goals as goal

-- what a participant holds in the column
abbrev held : List ℕ → ℕ → ℕ → ℕ
held l column q = total (position l (cell q column))

next : (c : After-cell_of) →
    let f : ℕ → ℕ = held c.args.positions.now c.args.column in
    (total (position c.args.positions.now c.cell_of.result) ≡ f c.loop-p.p)
    × (c.loop-p.sum + f c.loop-p.p ≤ money_limit)
next c =
    let f : ℕ → ℕ = held c.args.positions.now c.args.column in (
      ap (λ (x : ℕ). total (position c.args.positions.now x)) c.cell_of.ensures,
      omega (arith, sum_part f c.args.participants c.loop-p.p (omega arith), c.account_in-sum.ensures),
    )

pub total_at-sum-requires : goal.total_at-sum-requires
total_at-sum-requires c = let n = next c in (omega (arith, c.cell_of.ensures), omega arith)

pub overflow_add-sum : goal.overflow_add-sum
overflow_add-sum c = omega (arith, next c.before, c.total_at-sum.ensures)
