-- `script::ending::put_kind` meets its contract: an offer's kind is the longest.
use Rattle.std.proofs.Common.{arith, rules}
use Rattle.printing.proofs.Lines.{worded_length}
use Rattle.script.proofs.Lengths.{ends}
use Rattle.script.proofs.ending.put_kind.Goals as goal

pub returns-in-Kept : goal.returns-in-Kept
returns-in-Kept c =
    let most = ends c.put_worded.ensures (worded_length _ _) in
    record { size = search rules; most = omega arith }

pub returns-in-Offer : goal.returns-in-Offer
returns-in-Offer c =
    let most = ends c.put_worded-in-Offer.ensures (worded_length _ _) in
    record { size = search rules; most = omega arith }
