-- `codes::given` meets its contract: so many counts, added up, are few.
use Rattle.std.proofs.Common.{rules}
use Rattle.codes.proofs.Sums.{first_top, sum_first}
use Rattle.codes.proofs.given.Goals as goal

pub sum-requires-clause-fits : goal.sum-requires-clause-fits
sum-requires-clause-fits c =
    let top = first_top c.args.codes.now c.args.participants c.requires.0 c.requires.1 in
    search (rules, top)

pub returns : goal.returns
returns c =
    let all = sum_first c.args.codes.now c.args.participants in
    search (rules, all)
