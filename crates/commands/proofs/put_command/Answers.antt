-- `commands::put_command` meets its contract: the answer's line, then a line for each of its trades.
use mathlib.Core.Path.{ap}
use Rattle.market.specs.declared.Answer.{Answer}
use Rattle.market.specs.Answers.{numbers_of}
use Rattle.printing.proofs.Buffer.{puts_then}
use Rattle.commands.proofs.Placing.{puts_refused, trades_fit}
use Rattle.commands.proofs.put_command.Goals as goal

pub put_trades-requires-clause-numbers_per_trade_in_bounds_2 : goal.put_trades-requires-clause-numbers_per_trade_in_bounds_2
put_trades-requires-clause-numbers_per_trade_in_bounds_2 c =
    trades_fit c.args.line c.args.answer _ (ap (λ (a : Answer). (numbers_of a).trades) c.in-Done.is)
    c.requires.answer_bound c.requires.room_in_bounds c.put_answer-end.ensures

pub returns-in-Refused : goal.returns-in-Refused
returns-in-Refused c =
    puts_refused c.args.line c.args.answer _ (ap (λ (a : Answer). (numbers_of a).trades) c.in-Refused.is)
    c.put_answer-end.ensures

pub returns-in-Done : goal.returns-in-Done
returns-in-Done c =
    rw (ap (λ (a : Answer). (numbers_of a).trades) c.in-Done.is)
    (puts_then c.put_answer-end.ensures c.put_trades.ensures)
