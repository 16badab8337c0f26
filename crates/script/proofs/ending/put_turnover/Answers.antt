-- `script::ending::put_turnover` meets its contract: its line has its room.
use Rattle.script.proofs.Lengths.{adds_worded}
use Rattle.script.proofs.ending.put_turnover.Goals as goal

pub returns : goal.returns
returns c = adds_worded _ _ c.put_worded.ensures
