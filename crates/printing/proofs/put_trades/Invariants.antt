-- `printing::put_trades`: the lines of the trades passed are put.
use Rattle.std.proofs.Common.{◌≡◌, ◌*◌, drop, length, take}
use Rattle.std.specs.Slice.Iter.{chunks_exact_rest, chunks_exact_size}
use Rattle.market.specs.Limits.{numbers_per_trade}
use Rattle.printing.specs.Buffer.{line_room}
use Rattle.printing.specs.Lines.{flat_lines}
use Rattle.printing.proofs.Runs.{Running}
use Rattle.printing.proofs.put_trades.Given as goal

abbrev pub invariant-loop-trade : goal.invariant-loop-trade
invariant-loop-trade l =
    (goal.iterator-loop-trade).can_next l.trade-iterator ×
    (goal.iterator-loop-trade).is_finite l.trade-iterator ×
    (chunks_exact_size l.trade-iterator ≡ numbers_per_trade) ×
    (chunks_exact_rest l.trade-iterator ≡ drop (length l.yielded * numbers_per_trade) (take (l.count * numbers_per_trade) l.trades)) ×
    Running (λ n c. flat_lines n (drop (c * numbers_per_trade) l.trades)) (line_room numbers_per_trade) l.count l.initial.out l.initial.end l.out l.end (length l.yielded)
