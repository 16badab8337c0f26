-- What is known of the open deals of sound records.
use Prim.Native.Nat.{ℕ, ◌≤◌, ◌<◌}
use native.Mathlib.Omega.{arith}
use mathlib.Core.Path.{◌≡◌, subst}
use mathlib.Core.List.{List}
use mathlib.Core.Bool.{true}
use lib.ListN.{get_or}
use Rattle.market.specs.declared.Deal.{Deal}
use Rattle.market.specs.declared.Records.{Records}
use Rattle.market.specs.declared.Rules.{Rules}
use Rattle.market.specs.Limits.{max_deals}
use Rattle.market.specs.Deals.{deal_sound, no_deal}
use Rattle.market.specs.Ledger.{first_deals, records_sound}
use Rattle.market.proofs.Lists.{all_at}
use Rattle.market.proofs.Deals.{RecordsOk, records_ok}
use Rattle.market.proofs.View.{cut_at, cut_length}

module _ (r : Rules) (z : Records) (sound : records_sound r z.date (first_deals z.count z.deals) ≡ true) where
  abbrev deals : List Deal
  deals = first_deals z.count z.deals

  right : RecordsOk r z.date deals
  right = records_ok r z.date deals sound

  pub few_deals : z.count ≤ max_deals
  few_deals = omega (arith, right.room, cut_length no_deal z.count z.deals)

  pub deal_right : (i : ℕ) → i < z.count → deal_sound r (get_or z.deals i no_deal) ≡ true
  deal_right i h =
      subst (λ (y : Deal). deal_sound r y ≡ true) (cut_at no_deal z.count z.deals i h)
      (all_at (λ y. deal_sound r y ≡ true) no_deal deals i right.each
      (omega (arith, h, cut_length no_deal z.count z.deals)))
