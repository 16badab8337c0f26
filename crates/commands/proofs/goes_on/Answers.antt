-- `commands::goes_on` meets its contract.
use Rattle.commands.proofs.Carrying.{room_left_lem, text_over}
use Rattle.commands.proofs.goes_on.Goals as goal

pub returns-then-length-at : goal.returns-then-length-at
returns-then-length-at c =
    let a = c.args in
    text_over a.length a.at a.size a.filled c.if-length-at.true

pub returns : goal.returns
returns c =
    let a = c.args in
    room_left_lem a.length a.at a.size a.filled c.if-length-at.false c.requires
