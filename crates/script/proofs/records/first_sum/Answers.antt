-- `script::records::first_sum` is safe: what a sound deal costs can be reckoned.
use Rattle.std.proofs.Common.{arith}
use Rattle.market.proofs.Known.{price_bounds}
use Rattle.market.proofs.Deals.{deal_ok}
use Rattle.script.proofs.records.first_sum.Goals as goal

pub bounds-rules-from : goal.bounds-rules-from
bounds-rules-from c =
    let d = deal_ok c.args.rules.now c.args.deal c.requires.1 in
    omega (arith, c.from.ensures, d.security, c.requires.0.securities)

pub sum_for-requires : goal.sum_for-requires
sum_for-requires c =
    let ok = c.requires.0 in
    let d = deal_ok c.args.rules.now c.args.deal c.requires.1 in
    rw c.from.ensures (
      ok.lot _ d.security,
      ok.nominal _ d.security,
      omega (arith, c.from-2.ensures, price_bounds _ _ d.price),
      omega (arith, c.from-3.ensures, d.top),
    )
