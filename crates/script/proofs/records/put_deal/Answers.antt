-- `script::records::put_deal` meets its contract: its line has its room.
use Rattle.script.proofs.Lengths.{adds_worded}
use Rattle.script.proofs.records.put_deal.Goals as goal

pub returns : goal.returns
returns c = adds_worded _ _ c.put_worded.ensures
