-- What an orderly day is known to hold, and that sound means orderly and covered.
use Prim.Native.Nat.{ℕ, ◌≤◌, ◌<◌}
use native.Mathlib.Omega.{arith}
use mathlib.Core.Path.{◌≡◌, sym}
use mathlib.Core.List.{List}
use mathlib.Core.Bool.{Bool, true, false}
use lib.ListN.{length}
use borrow.Author.Tests.{leb-true, le-ltb, lt-ltb, ltb-true}
use Rattle.market.specs.declared.Order.{Order}
use Rattle.market.specs.declared.Turnover.{Turnover}
use Rattle.market.specs.Limits.{columns, max_lots, max_participants, max_price, max_securities}
use Rattle.market.specs.Limits.{max_waiting}
use Rattle.market.specs.Tests.{◌and◌, all_of, known}
use Rattle.market.specs.declared.Rules.{Rules}
use Rattle.market.specs.declared.Asset.TheVariants.{Money, Pieces}
use Rattle.market.specs.Day.{Day, currency_of, row, turnover_at}
use Rattle.market.specs.Parts.{ListingOk, listing}
use Rattle.market.specs.Codes.{codes_sound, given, numbered, own_rising, rising}
use Rattle.market.specs.Needs.{limit_of}
use Rattle.market.specs.Sound.{counts_sound, kind_sound, lots_sound, order_sound, rules_sound}
use Rattle.market.specs.Sound.{sound, turnover_sound}
use Rattle.market.proofs.Logic.{and_true, below_all, both, never, within_high, within_low}
use Rattle.market.proofs.Known.{RulesOk, listing_ok, rules_ok_lem}
use Rattle.market.proofs.Turnovers.{limit_bound, turnover_ok}
use Rattle.soundness.specs.Parts.{Checked, HoldsNeeds, asset_sound, orderly, waiting_sound}
use Rattle.soundness.proofs.Loops.{and_none, same}

pub record Orderly (d : Day) : Type 0 where
  pub count : length d.waiting ≤ max_waiting
  pub participants : 0 < d.rules.participants
  pub rules : RulesOk d.rules
  pub codes : codes_sound d ≡ true
  pub turnovers : (s : ℕ) → s < d.rules.securities → turnover_sound (given d) (turnover_at d.turnover s) ≡ true

pub orderly_holds : (d : Day) → orderly d ≡ true → Orderly d
unfolding orderly rules_sound counts_sound
orderly_holds d e =
    let a = and_true e in
    let counts = and_true a.1 in
    let table = and_true counts.1 in
    let rate = and_true table.1 in
    let codes = and_true rate.1 in
    record {
      count = leb-true (length d.waiting) max_waiting a.0;
      participants = within_low 1 max_participants d.rules.participants (and_true counts.0).0;
      rules = rules_ok_lem d.rules (both counts.0 (both table.0 rate.0));
      codes = codes.0;
      turnovers = below_all d.rules.securities (λ s. turnover_sound (given d) (turnover_at d.turnover s))
          codes.1;
    }

pub few_securities : (participants currencies securities : ℕ) → counts_sound participants currencies securities ≡ true
    → securities ≤ max_securities
unfolding counts_sound
few_securities participants currencies securities e =
    within_high 1 max_securities securities (and_true (and_true e).1).1

pub few_participants : (participants currencies securities : ℕ) → counts_sound participants currencies securities ≡ true
    → participants ≤ max_participants
unfolding counts_sound
few_participants participants currencies securities e =
    within_high 1 max_participants participants (and_true e).0

-- the parts of "sound" in the order of the code
pub parts : (d : Day) → sound d ≡ orderly d and waiting_sound d and asset_sound Money d and asset_sound Pieces d
unfolding sound orderly waiting_sound asset_sound rules_sound numbered
parts d = same _ _ there back
  where
    there : sound d ≡ true → orderly d and waiting_sound d and asset_sound Money d and asset_sound Pieces d ≡ true
    there e =
        let rules = and_true e in
        let r = and_true rules.0 in
        let lines = and_true r.1 in
        let codes = and_true rules.1 in
        let n = and_true codes.0 in
        let count = and_true codes.1 in
        let orders = and_true count.1 in
        let money = and_true orders.1 in
        let pieces = and_true money.1 in
        let t = and_true pieces.1 in
        let u = and_true t.1 in
        both (both count.0 (both r.0 (both lines.0 (both lines.1 (both n.0 u.1)))))
        (both (both orders.0 n.1) (both (both money.0 t.0) (both pieces.0 u.0)))

    back : orderly d and waiting_sound d and asset_sound Money d and asset_sound Pieces d ≡ true → sound d ≡ true
    back e =
        let all = and_true e in
        let count = and_true all.0 in
        let counts = and_true count.1 in
        let table = and_true counts.1 in
        let rate = and_true table.1 in
        let codes = and_true rate.1 in
        let rest = and_true all.1 in
        let orders = and_true rest.0 in
        let assets = and_true rest.1 in
        let money = and_true assets.0 in
        let pieces = and_true assets.1 in
        both (both counts.0 (both table.0 rate.0)) (both (both codes.0 orders.1) (both count.0 (both orders.0
        (both money.0 (both pieces.0 (both money.1 (both pieces.1 codes.1)))))))

-- the test of the waiting orders, where one of its three parts fails and where none does
module _ (d : Day) (needs : List ℕ) where
  pub order_fails : false ≡ all_of (order_sound d) d.waiting → Checked d false needs
  unfolding waiting_sound ◌and◌
  order_fails e = record { right = rw (sym e); added = λ t. never t }

  pub arrival_fails : rising 0 (given d) d.waiting ≡ false → Checked d false needs
  unfolding waiting_sound ◌and◌
  arrival_fails e = record { right = rw e (sym (and_none (all_of (order_sound d) d.waiting))); added = λ t. never t }

  pub own_fails : false ≡ own_rising d → Checked d false needs
  unfolding waiting_sound
  own_fails e = record { right = rw (sym e, and_none, and_none); added = λ t. never t }

  pub orders_hold : {answer : Bool} → true ≡ all_of (order_sound d) d.waiting
      → rising 0 (given d) d.waiting ≡ true → own_rising d ≡ answer → HoldsNeeds d needs → Checked d answer needs
  unfolding waiting_sound ◌and◌
  orders_hold e r o h = record { right = rw (sym e, r) (sym o); added = λ t. h }

-- an order of an unknown security, and what is left to ask of one that is known
pub unknown_security : (d : Day) (o : Order) → d.rules.securities ≤ o.security → order_sound d o ≡ false
unfolding order_sound ◌and◌
unknown_security d o h = rw (le-ltb _ _ h) (and_none (known o.participant d.rules.participants))

pub known_security : (d : Day) (o : Order) → o.security < d.rules.securities
    → order_sound d o ≡ known o.participant d.rules.participants and lots_sound o.lots
    and kind_sound d.phase (row d.rules o.security) (turnover_at d.turnover o.security) o.kind
unfolding order_sound ◌and◌
known_security d o h = rw (lt-ltb _ _ h)

-- a sound order is of a known participant
pub order_known : (d : Day) (o : Order) → order_sound d o ≡ true → o.participant < d.rules.participants
unfolding order_sound
order_known d o e = ltb-true o.participant d.rules.participants (and_true e).0

-- a waiting order whose need can be reckoned
pub record Reckonable (r : Rules) (t : List Turnover) (o : Order) : Type 0 where
  pub participant : o.participant < columns
  pub security : o.security < max_securities
  pub currency : currency_of r o.security < columns
  pub lots : o.lots ≤ max_lots
  pub listing : ListingOk (listing r o.security)
  pub price : limit_of t o ≤ max_price

pub reckonable : (d : Day) (o : Order) → Orderly d → order_sound d o ≡ true → Reckonable d.rules d.turnover o
unfolding order_sound
reckonable d o y e =
    let a = and_true e in
    let b = and_true a.1 in
    let c = and_true b.1 in
    let s = o.security in
    let participant = ltb-true o.participant d.rules.participants a.0 in
    let security = ltb-true s d.rules.securities b.0 in
    let currency = y.rules.currency s security in
    record {
      participant = omega (arith, y.rules.participants);
      security = omega (arith, y.rules.securities);
      currency = omega (arith, y.rules.currencies);
      lots = within_high 1 max_lots o.lots c.0;
      listing = listing_ok d.rules s y.rules security;
      price = limit_bound d.phase (row d.rules s) (turnover_at d.turnover s) o.kind
          (turnover_ok (given d) (turnover_at d.turnover s) (y.turnovers s security)) c.1;
    }
