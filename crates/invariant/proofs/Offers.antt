-- What an offer's questions tell of it, and that an accepted one keeps a day sound: it waits, or it meets its counter offer and
-- both are gone.
use Prim.Native.Nat.{ℕ, ◌<◌}
use native.Mathlib.Omega.{arith}
use mathlib.Core.Path.{◌≡◌, refl, sym}
use mathlib.Core.List.{List, [], ◌∷◌, ◌++◌}
use mathlib.Core.Bool.{true}
use lib.ListN.{length}
use borrow.Author.Tests.{ltb-true}
use Rattle.market.specs.declared.Order.{Order}
use Rattle.market.specs.declared.Rules.{Rules}
use Rattle.market.specs.declared.Ticket.{Ticket}
use Rattle.market.specs.Limits.{max_lots}
use Rattle.market.specs.Day.{Day, no_order, order_at}
use Rattle.market.specs.View.{Sized}
use Rattle.market.specs.Sound.{sound}
use Rattle.market.specs.TradeList.{Trade}
use Rattle.market.specs.Questions.{first_no}
use Rattle.market.specs.Deals.{loan_sound, term_sound}
use Rattle.market.specs.Ledger.{Ledger}
use Rattle.market.specs.ActStep.{offer_questions}
use Rattle.market.specs.Needs.{price_or}
use Rattle.market.specs.Positions.{block_for}
use Rattle.market.specs.Waiting.{Index, first_index, nowhere, somewhere}
use Rattle.market.specs.Entry.{admitted, placed}
use Rattle.market.specs.Matching.{if_buy}
use Rattle.market.specs.Offers.{counter_offer, meets, offer_of, offered, offered_by}
use Rattle.market.proofs.Logic.{and_true, both, within_high, within_low}
use Rattle.market.proofs.Lists.{all_at}
use Rattle.market.proofs.Questions.{all_yes, yes}
use Rattle.market.proofs.Known.{OrderOk}
use Rattle.market.proofs.Phases.{offer_open}
use Rattle.market.proofs.Offers.{FoundAt, first_found, offers_meet}
use Rattle.invariant.specs.Standing.{Placeable, Standing}
use Rattle.invariant.proofs.Sound.{sound_standing, standing_sound}
use Rattle.invariant.proofs.Placed.{placed_standing}
use Rattle.invariant.proofs.Pairing.{pair_standing}

-- an offer whose questions are all answered "yes"
pub offer_placeable : (l : Ledger) (p : ℕ) (m : Ticket) (rate term : ℕ) → first_no (offer_questions l p m rate term) ≡ 0
    → Placeable l.day (offer_of l.day p m rate term)
unfolding offer_questions term_sound loan_sound
offer_placeable l p m rate term e =
    let qs = offer_questions l p m rate term in
    let y = all_yes qs tt e in
    let d = l.day in
    record {
      order = record {
        participant = ltb-true p d.rules.participants (yes 4 qs y);
        security = ltb-true m.security d.rules.securities (yes 5 qs y);
        lots = within_low 1 max_lots m.lots (yes 7 qs y);
        top = within_high 1 max_lots m.lots (yes 7 qs y);
      };
      kind =
          both (offer_open d.phase (yes 6 qs y))
          (both (yes 8 qs y) (both (and_true (yes 25 qs y)).0 (and_true (yes 24 qs y)).0));
      room = yes 12 qs y;
      left = yes 13 qs y;
      covers = yes 14 qs y;
      arrival = refl;
      code = refl;
    }

pub offered_standing : (d : Day) (e : Order) → Standing d → Placeable d e → Standing (offered d e).day
unfolding offered counter_offer placed admitted block_for
offered_standing d e g a = go (first_index (meets e) d.waiting) (first_found (meets e) d.waiting)
  where
    go : (x : Index) → FoundAt (meets e) d.waiting x → Standing (offered_by x d e).day
    go nowhere h = placed_standing d e g a
    go (somewhere i) h =
        let m = offers_meet d.turnover d.waiting e i h.0 h.1 in
        let last = length d.waiting in
        pair_standing (placed d e).day (placed_standing d e g a) e.security (price_or 0 e.kind)
        (if_buy e.side last i) (if_buy e.side i last) e.lots m.0.stands m.1.stands
        (omega (arith, m.0.price)) (omega (arith, m.0.lots)) (omega (arith, m.1.lots))

-- the same of a sound day
pub offered_sound : (d : Day) (e : Order) → Sized d → sound d ≡ true → Placeable d e → sound (offered d e).day ≡ true
offered_sound d e size ok a = standing_sound (offered d e).day (offered_standing d e (sound_standing d size ok) a)

-- a trade of an offer e: between known participants, in its security, at its price, of all its lots
pub record FirstOk (r : Rules) (e : Order) (t : Trade) : Type 0 where
  pub buyer : t.buyer < r.participants
  pub seller : t.seller < r.participants
  pub security : t.security ≡ e.security
  pub price : t.price ≡ price_or 0 e.kind
  pub lots : t.lots ≡ e.lots

-- none, or one of which P holds
abbrev pub AtMostOne : {A : Type 0} → (A → Type 0) → List A → Type 0
AtMostOne P [] = Unit {0}
AtMostOne P (x ∷ []) = P x
AtMostOne P (x ∷ y ∷ l) = ⊥

pub offered_trades : (d : Day) (e : Order) → Standing d → Placeable d e
    → AtMostOne (FirstOk d.rules e) (offered d e).trades
unfolding offered counter_offer placed admitted block_for
offered_trades d e g a = go (first_index (meets e) d.waiting) (first_found (meets e) d.waiting)
  where
    party : (k : ℕ) → k < length (d.waiting ++ (e ∷ [])) → (order_at (d.waiting ++ (e ∷ [])) k).participant < d.rules.participants
    party k h =
        (all_at (OrderOk d.rules) no_order (d.waiting ++ (e ∷ [])) k (placed_standing d e g a).orders h).participant

    go : (x : Index) → FoundAt (meets e) d.waiting x → AtMostOne (FirstOk d.rules e) (offered_by x d e).trades
    go nowhere h = tt
    go (somewhere i) h =
        let m = offers_meet d.turnover d.waiting e i h.0 h.1 in
        record {
          buyer = party _ m.0.stands.inside;
          seller = party _ m.1.stands.inside;
          security = sym m.0.stands.security;
          price = refl;
          lots = refl;
        }
