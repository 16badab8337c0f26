-- An accepted order: from a sound day into flight, and back to a sound day.
use Prim.Native.Nat.{ℕ, ◌<◌}
use native.Mathlib.Omega.{arith}
use mathlib.Core.Path.{◌≡◌, refl, sym, subst}
use mathlib.Core.List.{List, [], ◌∷◌, ◌++◌, append-nil}
use mathlib.Core.Bool.{Bool, true, false, cond}
use lib.ListN.{length, length-append}
use borrow.Author.Tests.{eqb-true, eqb-false, ltb-true}
use Rattle.market.specs.declared.Ticket.{Ticket}
use Rattle.market.specs.declared.Access.{Access}
use Rattle.market.specs.declared.Order.{Order}
use Rattle.market.specs.declared.Phase.{Phase}
use Rattle.market.specs.declared.Phase.TheVariants.{Open}
use Rattle.market.specs.declared.TimeInForce.{TimeInForce}
use Rattle.market.specs.declared.TimeInForce.TheVariants.{FillOrKill, ImmediateOrCancel, Kept}
use Rattle.market.specs.declared.Turnover.{Turnover}
use Rattle.market.specs.Limits.{max_lots, max_waiting}
use Rattle.market.specs.Tests.{◌=?◌}
use Rattle.market.specs.declared.Rules.{Rules}
use Rattle.market.specs.declared.Asset.{Asset}
use Rattle.market.specs.Day.{Day, no_turnover, row, turnover_at, with_lots, with_money, with_pieces, with_waiting}
use Rattle.market.specs.Codes.{codes_of, given}
use Rattle.market.specs.Needs.{need_at, only, pieces_of}
use Rattle.market.specs.Positions.{block_for, release_for}
use Rattle.market.specs.Sound.{kind_sound}
use Rattle.market.specs.Calls.{entry_of}
use Rattle.market.specs.Questions.{first_no, order_questions}
use Rattle.market.specs.Entry.{admitted, finished, left_waiting}
use Rattle.market.proofs.Logic.{within_high}
use Rattle.market.proofs.Lists.{All, all_append, all_map, sum_append}
use Rattle.market.proofs.Needs.{need_none}
use Rattle.market.proofs.Questions.{all_yes, yes}
use Rattle.market.proofs.Known.{OrderOk, kept_open, open_priced}
use Rattle.market.proofs.Turnovers.{TurnoverOk, turnover_room_lem, turnover_spent}
use Rattle.market.proofs.Codes.{codes_ok_next, given_next, numbered_drop, numbered_enter}
use Rattle.invariant.specs.Standing.{Backed, InFlight, KindOk, PricedOk, Standing}
use Rattle.invariant.proofs.Backed.{block_backed, release_backed, relist}

-- while open, what waits is kept or an offer, at a good price, and no turnover is asked
pub kinds_priced : (d : Day) → d.phase ≡ Open → (o : Order) → KindOk d o → PricedOk d.rules o
kinds_priced d e o h =
    let l = row d.rules o.security in
    let t = turnover_at d.turnover o.security in
    (open_priced l t o.kind (subst (λ (x : Phase). kind_sound x l t o.kind ≡ true) e h)).1 no_turnover

pub priced_kinds : (d : Day) → d.phase ≡ Open → (o : Order) → PricedOk d.rules o → KindOk d o
priced_kinds d e o h =
    let l = row d.rules o.security in
    let t = turnover_at d.turnover o.security in
    subst (λ (x : Phase). kind_sound x l t o.kind ≡ true) (sym e) ((open_priced l no_turnover o.kind h).1 t)

-- where an order's questions are all answered "yes" while open, it is in flight once it is admitted
pub flight_starts : (d : Day) (p : ℕ) (m : Ticket) (a : Access) (k : TimeInForce) → Standing d → d.phase ≡ Open
    → first_no (order_questions d p m a k) ≡ 0 → InFlight (admitted d (entry_of d p m)) (entry_of d p m)
unfolding order_questions admitted block_for
flight_starts d p m a k g phase e =
    let qs = order_questions d p m a k in
    let y = all_yes qs tt e in
    let o = entry_of d p m in
    let ok = g.backed.rules_ok in
    let hp = ltb-true p d.rules.participants (yes 4 qs y) in
    let hs = ltb-true m.security d.rules.securities (yes 5 qs y) in
    let top = within_high 1 max_lots m.lots (yes 7 qs y) in
    record {
      backed = block_backed d o hp hs g.backed (yes 14 qs y);
      orders = g.orders;
      codes = numbered_enter d d.waiting o ok g.limit hp refl refl g.codes;
      phase = phase;
      participant = hp;
      security = hs;
      top = top;
      priced = all_map (KindOk d) (PricedOk d.rules) d.waiting (kinds_priced d phase) g.kinds;
      entry_priced = yes 8 qs y;
      limit = codes_ok_next d p ok g.limit hp (yes 13 qs y);
      room = g.room;
      turnover_length = g.turnover_length;
      turnovers = λ s h.
          subst (λ (c : ℕ). TurnoverOk c (only m.security s (pieces_of (row d.rules m.security) m.lots))
          (turnover_at d.turnover s))
          (sym (given_next d p ok g.limit hp))
          (turnover_room_lem d.rules (given d) m.security m.lots s (turnover_at d.turnover s) ok hs top (g.turnovers s h));
    }

-- an entry without lots needs nothing
pub no_need : (y : Asset) (r : Rules) (t : List Turnover) (j : ℕ) (e : Order) → e.lots ≡ 0 → need_at y r t j e ≡ 0
no_need y r t j e q = subst (λ (n : ℕ). need_at y r t j (with_lots e n) ≡ 0) (sym q) (need_none y r t j e)

-- after the fill: a kept remainder waits, any other is freed
module _ (d : Day) (e : Order) (f : InFlight d e) where
  kinds_of : (w : List Order) → All (PricedOk d.rules) w → All (KindOk d) w
  kinds_of w a = all_map (PricedOk d.rules) (KindOk d) w (priced_kinds d f.phase) a

  -- nothing of the entry is left, and positions m and q agree with that
  entry_gone : (m q : List ℕ) → Backed [] (with_pieces (with_money d m) q) → Standing (with_pieces (with_money d m) q)
  entry_gone m q a = record {
    backed = a;
    orders = f.orders;
    codes = numbered_drop (given d) (codes_of d) d.waiting e f.codes;
    kinds = kinds_of d.waiting f.priced;
    limit = f.limit;
    room = f.room;
    turnover_length = f.turnover_length;
    turnovers = λ s hs. turnover_spent (given d) _ (turnover_at d.turnover s) (f.turnovers s hs);
  }

  finish_kept : (0 < e.lots → length d.waiting < max_waiting) → Standing (finished Kept d e)
  finish_kept room = go (e.lots =? 0) refl
    where
      go : (z : Bool) → (e.lots =? 0) ≡ z → Standing (with_waiting d (d.waiting ++ cond z [] (e ∷ [])))
      go true q =
          let n = eqb-true e.lots 0 q in
          rw (append-nil d.waiting)
          (entry_gone d.money d.pieces
          (relist (e ∷ []) [] d.waiting d f.backed
          (λ y j. omega (arith, no_need y d.rules d.turnover j e n))))
      go false q =
          let some : 0 < e.lots = omega (arith, eqb-false e.lots 0 q) in
          let ok : OrderOk d.rules e =
          record { participant = f.participant; security = f.security; lots = some; top = f.top } in
          record {
            backed = relist (e ∷ []) [] (d.waiting ++ (e ∷ [])) d f.backed
                (λ y j. omega (arith, sum_append (need_at y d.rules d.turnover j) d.waiting (e ∷ [])));
            orders = all_append (OrderOk d.rules) d.waiting (e ∷ []) f.orders (ok, tt);
            codes = f.codes;
            kinds = kinds_of (d.waiting ++ (e ∷ []))
                (all_append (PricedOk d.rules) d.waiting (e ∷ []) f.priced
                (kept_open d.rules e.security no_turnover e.kind f.entry_priced, tt));
            limit = f.limit;
            room = omega (arith, room some, length-append d.waiting (e ∷ []));
            turnover_length = f.turnover_length;
            turnovers = λ s hs. turnover_spent (given d) _ (turnover_at d.turnover s) (f.turnovers s hs);
          }

  finish_free : Standing (release_for d e)
  unfolding release_for
  finish_free =
      entry_gone _ _
      (release_backed d e f.participant f.security (e ∷ []) [] d.waiting f.backed (λ y j. omega arith))

  pub flight_ends : (k : TimeInForce) → (0 < left_waiting k e → length d.waiting < max_waiting)
      → Standing (finished k d e)
  flight_ends Kept room = finish_kept room
  flight_ends ImmediateOrCancel room = finish_free
  flight_ends FillOrKill room = finish_free
