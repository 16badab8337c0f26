-- `dealings::with_deal` meets its contract: there is a place behind the open deals.
use native.Mathlib.Omega.{arith}
use Rattle.std.proofs.Common.{◌≡◌, length, refl, rules}
use Rattle.market.specs.Limits.{max_deals}
use Rattle.market.specs.Deals.{no_deal}
use Rattle.market.proofs.View.{cut_append}
use Rattle.dealings.proofs.with_deal.Goals as goal

pub returns : goal.returns
returns c =
    let z = c.args.records.now in
    let long : length z.deals ≡ max_deals = search rules in
    record {
      date = refl;
      deals = cut_append no_deal z.count z.deals c.args.deal (omega (arith, c.requires, long));
    }
