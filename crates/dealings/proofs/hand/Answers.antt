-- `dealings::hand` meets its contract: there is room once the amount has gone out.
use Rattle.dealings.proofs.Second.{room_after}
use Rattle.dealings.proofs.hand.Goals as goal

pub receive-requires : goal.receive-requires
receive-requires c =
    let r = room_after c.requires c.draw.ensures in
    (c.requires.to_known, r.0, r.1)
