-- `positions::transfer` meets its contract: the receiver's room is known once the payer has paid.
use mathlib.Core.Path.{◌∙◌, ap}
use mathlib.Core.List.{List}
use Prim.Native.Nat.{ℕ}
use Rattle.market.specs.Positions.{change, receive}
use Rattle.positions.proofs.Paying.{receivable}
use Rattle.positions.proofs.transfer.Goals as goal

pub receive-requires : goal.receive-requires
receive-requires c =
    let start = c.before in
    let r = receivable start.requires c.pay_out.ensures in
    (start.requires.receiver_known, r.0, r.1)

pub returns : goal.returns
returns c =
    let start = c.before in
    c.receive.ensures
    ∙ ap (λ (l : List ℕ). change l start.args.receiver (receive start.args.gain)) c.pay_out.ensures
