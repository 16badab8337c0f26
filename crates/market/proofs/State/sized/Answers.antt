-- `State::sized` meets its contract, part by part.
use Rattle.market.proofs.State.sized.Goals as goal

pub returns : goal.returns
returns c =
    record {
      table = c.sized_table.ensures;
      money = c.sized_positions.ensures;
      pieces = c.sized_positions-2.ensures;
      codes = c.sized_floor.ensures.codes;
      turnover = c.sized_floor.ensures.turnover;
    }
