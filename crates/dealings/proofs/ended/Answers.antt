-- `dealings::ended` meets its contract: the deals behind the place move over it.
use native.Mathlib.Omega.{arith}
use Rattle.std.proofs.Common.{◌≡◌, ◌-◌, ◌∙◌, List, ap, length, refl, rules}
use Rattle.market.specs.declared.Deal.{Deal}
use Rattle.market.specs.Limits.{max_deals}
use Rattle.market.specs.Deals.{no_deal}
use Rattle.market.specs.Ledger.{first_deals}
use Rattle.waiting.proofs.Gap.{gap_closed}
use Rattle.dealings.proofs.ended.Goals as goal

pub returns : goal.returns
returns c =
    let z = c.args.records.now in
    let long : length z.deals ≡ max_deals = search rules in
    record {
      date = refl;
      deals =
          ap (λ (l : List Deal). first_deals (z.count - 1) l) c.copy_within.ensures.after
          ∙ gap_closed no_deal z.deals c.args.at z.count c.requires.0 (omega (arith, c.requires.1, long));
    }
