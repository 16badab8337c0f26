-- A day is sound where these facts hold, and they hold of a sound day.
use Prim.Native.Nat.{ℕ, ◌≤◌, ◌<◌}
use native.Mathlib.Omega.{arith}
use mathlib.Core.Path.{◌≡◌}
use mathlib.Core.List.{List}
use mathlib.Core.Bool.{true}
use lib.ListN.{length}
use borrow.Author.Tests.{eqb-true, eq-eqb, leb-true, ltb-true, le-leb, lt-ltb}
use Rattle.market.specs.declared.Floor.{Floor}
use Rattle.market.specs.declared.Order.{Order}
use Rattle.market.specs.Limits.{columns, max_lots, max_waiting, position_numbers}
use Rattle.market.specs.Tests.{◌=?◌, ◌≤?◌, all_below}
use Rattle.market.specs.declared.Rules.{Rules}
use Rattle.market.specs.declared.Asset.{Asset}
use Rattle.market.specs.declared.Asset.TheVariants.{Money, Pieces}
use Rattle.market.specs.Day.{Day, columns_of, cell, order_at, position, positions}
use Rattle.market.specs.View.{Sized, day_of}
use Rattle.market.specs.Day.{total_limit, turnover_at}
use Rattle.market.specs.Codes.{arrival_of, given}
use Rattle.market.specs.Positions.{total_at}
use Rattle.market.specs.Sound.{blocked_sound, needs_at, order_sound, sound, totals_sound, turnover_sound}
use Rattle.market.specs.Parts.{Ready}
use Rattle.market.proofs.Logic.{and_true, below_all, below_intro, both, within_high, within_low}
use Rattle.market.proofs.Lists.{all_and, all_test, test_all}
use Rattle.market.proofs.Known.{OrderOk, RulesOk, rules_ok_lem}
use Rattle.market.proofs.Turnovers.{turnover_ok, turnover_sound_lem}
use Rattle.market.proofs.Codes.{numbered_sound, place_arrival, sound_numbered}
use Rattle.invariant.specs.Standing.{Held, KindOk, Standing}

module _ (d : Day) (g : Standing d) where
  order_sound_lem : (o : Order) → OrderOk d.rules o × KindOk d o → order_sound d o ≡ true
  unfolding order_sound
  order_sound_lem o k =
      both (lt-ltb o.participant d.rules.participants k.0.participant)
      (both (lt-ltb o.security d.rules.securities k.0.security)
      (both (both (le-leb 1 o.lots k.0.lots) (le-leb o.lots max_lots k.0.top)) k.1))

  blocked_sound_lem : (x : Asset) → blocked_sound x d ≡ true
  unfolding blocked_sound
  blocked_sound_lem x =
      below_intro d.rules.participants _
      (λ p hp. below_intro (columns_of x d.rules) _
      (λ c hc. eq-eqb _ _ ((g.backed.held x).blocked p c hp hc)))

  totals_sound_lem : (x : Asset) → totals_sound x d ≡ true
  unfolding totals_sound
  totals_sound_lem x =
      below_intro (columns_of x d.rules) _
      (λ c hc. le-leb (total_at x d.rules.participants (positions x d) c) (total_limit x) ((g.backed.held x).topped c hc))

  pub standing_sound : sound d ≡ true
  unfolding sound
  standing_sound =
      let ok = g.backed.rules_ok in
      both ok.sound
      (both (numbered_sound d g.limit g.codes)
      (both (le-leb (length d.waiting) max_waiting g.room)
      (both (all_test _ (order_sound d) d.waiting order_sound_lem
      (all_and (OrderOk d.rules) (KindOk d) d.waiting g.orders g.kinds))
      (both (blocked_sound_lem Money)
      (both (blocked_sound_lem Pieces)
      (both (totals_sound_lem Money)
      (both (totals_sound_lem Pieces)
      (below_intro d.rules.securities _
      (λ s h. turnover_sound_lem (given d) (turnover_at d.turnover s) (g.turnovers s h))))))))))

held_own : (x : Asset) (r : Rules) (m : List ℕ) (needs : ℕ → ℕ) → RulesOk r → columns_of x r ≤ columns
    → length m ≡ position_numbers
    → all_below r.participants (λ p. all_below (columns_of x r)
    (λ c. (position m (cell p c)).blocked =? needs (cell p c))) ≡ true
    → all_below (columns_of x r) (λ c. total_at x r.participants m c ≤? total_limit x) ≡ true
    → Held x r m needs
held_own x r m needs ok wide size blocked top = record {
  wide = wide;
  rows = ok.participants;
  positions = size;
  blocked = λ p c hp hc.
      eqb-true (position m (cell p c)).blocked (needs (cell p c))
      (below_all (columns_of x r) (λ c. (position m (cell p c)).blocked =? needs (cell p c))
      (below_all r.participants
      (λ p. all_below (columns_of x r) (λ c. (position m (cell p c)).blocked =? needs (cell p c))) blocked p hp) c hc);
  topped = λ c hc.
      leb-true (total_at x r.participants m c) (total_limit x)
      (below_all (columns_of x r) (λ c. total_at x r.participants m c ≤? total_limit x) top c hc);
}

order_facts : (d : Day) (o : Order) → order_sound d o ≡ true → OrderOk d.rules o × KindOk d o
unfolding order_sound
order_facts d o e =
    let a = and_true e in
    let b = and_true a.1 in
    let c = and_true b.1 in (
      record {
        participant = ltb-true o.participant d.rules.participants a.0;
        security = ltb-true o.security d.rules.securities b.0;
        lots = within_low 1 max_lots o.lots c.0;
        top = within_high 1 max_lots o.lots c.0;
      },
      c.1,
    )

pub sound_standing : (d : Day) → Sized d → sound d ≡ true → Standing d
unfolding sound blocked_sound totals_sound
sound_standing d size e =
    let r = d.rules in
    let e1 = and_true e in
    let e2 = and_true e1.1 in
    let e3 = and_true e2.1 in
    let e4 = and_true e3.1 in
    let e5 = and_true e4.1 in
    let e6 = and_true e5.1 in
    let e7 = and_true e6.1 in
    let e8 = and_true e7.1 in
    let ok = rules_ok_lem r e1.0 in
    let orders = test_all (OrderOk r) (order_sound d) d.waiting (λ o k. (order_facts d o k).0) e4.0 in
    let codes = sound_numbered d size.codes e2.0 orders in
    record {
      backed = record { rules_ok = ok; held = held_each ok e5.0 e6.0 e7.0 e8.0 };
      orders = orders;
      codes = codes.1;
      kinds = test_all (KindOk d) (order_sound d) d.waiting (λ o k. (order_facts d o k).1) e4.0;
      limit = codes.0;
      room = leb-true (length d.waiting) max_waiting e3.0;
      turnover_length = size.turnover;
      turnovers = λ s h.
          turnover_ok (given d) (turnover_at d.turnover s)
          (below_all r.securities (λ s. turnover_sound (given d) (turnover_at d.turnover s)) e8.1 s h);
    }
  where
    held_each : RulesOk d.rules → blocked_sound Money d ≡ true → blocked_sound Pieces d ≡ true
        → totals_sound Money d ≡ true → totals_sound Pieces d ≡ true → (x : Asset)
        → Held x d.rules (positions x d) (needs_at x d)
    held_each ok bm bp tm tp Money =
        held_own Money d.rules d.money _ ok (omega (arith, ok.currencies)) size.money bm tm
    held_each ok bm bp tm tp Pieces =
        held_own Pieces d.rules d.pieces _ ok ok.securities size.pieces bp tp

-- "A shared arrival number .. orders the waiting list" (T-07)
pub by_arrival : (d : Day) → Sized d → sound d ≡ true → (i j : ℕ) → i < j → j < length d.waiting
    → arrival_of (order_at d.waiting i) < arrival_of (order_at d.waiting j)
by_arrival d size e i j = place_arrival 0 (given d) d.waiting i j (sound_standing d size e).codes.arrivals

pub ready_standing : {r : Rules} {f : Floor} → Ready r f → Standing (day_of r f)
ready_standing {r} {f} g = sound_standing (day_of r f) g.sized g.sound
