-- `script::put_command`: the rooms of the answer and of its trades add up.
use Rattle.std.proofs.Common.{arith, rules}
use Rattle.printing.proofs.Lines.{answer_length}
use Rattle.script.proofs.Lengths.{ends, trades_length}
use Rattle.script.proofs.put_command.Goals as goal

pub put_trades-requires : goal.put_trades-requires
put_trades-requires c =
    let most = ends c.put_answer-end.ensures (answer_length _ _) in
    record {
      numbers_per_trade_in_bounds = omega arith;
      numbers_per_trade_in_bounds_2 = omega arith;
    }

pub returns : goal.returns
returns c =
    let most = ends c.put_answer-end.ensures (answer_length _ _) in
    let last = ends c.put_trades.ensures (trades_length _ _) in
    record { size = search rules; most = omega arith }

pub returns-in_default : goal.returns-in_default
returns-in_default c =
    let most = ends c.put_answer-end.ensures (answer_length _ _) in
    record { size = search rules; most = omega arith }

pub returns-then-count-gt-MAX_TRADES : goal.returns-then-count-gt-MAX_TRADES
returns-then-count-gt-MAX_TRADES c =
    let most = ends c.put_answer-end.ensures (answer_length _ _) in
    record { size = search rules; most = omega arith }
