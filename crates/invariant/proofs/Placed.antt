-- An order that only waits: what its questions tell of it, and that the day it is placed on stays sound.
use Prim.Native.Nat.{ℕ}
use native.Mathlib.Omega.{arith}
use mathlib.Core.Path.{◌≡◌, refl, ap}
use mathlib.Core.List.{[], ◌∷◌, ◌++◌}
use lib.ListN.{length, length-append}
use borrow.Author.Tests.{ltb-true}
use Rattle.market.specs.declared.Order.{Order}
use Rattle.market.specs.declared.Side.{Side}
use Rattle.market.specs.declared.Ticket.{Ticket}
use Rattle.market.specs.declared.TimeInForce.TheVariants.{Kept}
use Rattle.market.specs.Limits.{max_lots, max_waiting}
use Rattle.market.specs.Day.{Day}
use Rattle.market.specs.Needs.{need_at}
use Rattle.market.specs.Positions.{block_for}
use Rattle.market.specs.Sound.{is_closing}
use Rattle.market.specs.Calls.{closing_of, entry_of}
use Rattle.market.specs.Phases.{order_access}
use Rattle.market.specs.Questions.{closing_questions, first_no, order_questions}
use Rattle.market.specs.Entry.{admitted, placed}
use Rattle.market.proofs.Logic.{both, within_high, within_low}
use Rattle.market.proofs.Lists.{all_append, sum_append}
use Rattle.market.proofs.Questions.{all_yes, yes}
use Rattle.market.proofs.Known.{OrderOk}
use Rattle.market.proofs.Phases.{closing_phase, kept_waits}
use Rattle.market.proofs.Codes.{codes_ok_next, given_next, numbered_enter}
use Rattle.invariant.specs.Standing.{KindOk, Placeable, Standing}
use Rattle.invariant.proofs.Backed.{block_backed, relist}

-- a closing order whose questions are all answered "yes"
pub closing_placeable : (d : Day) (p : ℕ) (x : Side) (s n : ℕ) → first_no (closing_questions d p x s n) ≡ 0
    → Placeable d (closing_of d p x s n)
unfolding closing_questions
closing_placeable d p x s n e =
    let qs = closing_questions d p x s n in
    let y = all_yes qs tt e in
    record {
      order = record {
        participant = ltb-true p d.rules.participants (yes 4 qs y);
        security = ltb-true s d.rules.securities (yes 5 qs y);
        lots = within_low 1 max_lots n (yes 7 qs y);
        top = within_high 1 max_lots n (yes 7 qs y);
      };
      kind = both (ap is_closing (closing_phase d.phase (yes 6 qs y))) (yes 11 qs y);
      room = yes 12 qs y;
      left = yes 13 qs y;
      covers = yes 14 qs y;
      arrival = refl;
      code = refl;
    }

-- a kept order whose questions are all answered "yes"
pub kept_placeable : (d : Day) (p : ℕ) (m : Ticket) → first_no (order_questions d p m (order_access Kept) Kept) ≡ 0
    → Placeable d (entry_of d p m)
unfolding order_questions
kept_placeable d p m e =
    let qs = order_questions d p m (order_access Kept) Kept in
    let y = all_yes qs tt e in
    record {
      order = record {
        participant = ltb-true p d.rules.participants (yes 4 qs y);
        security = ltb-true m.security d.rules.securities (yes 5 qs y);
        lots = within_low 1 max_lots m.lots (yes 7 qs y);
        top = within_high 1 max_lots m.lots (yes 7 qs y);
      };
      kind = both (kept_waits d.phase (yes 6 qs y)) (yes 8 qs y);
      room = yes 12 qs y;
      left = yes 13 qs y;
      covers = yes 14 qs y;
      arrival = refl;
      code = refl;
    }

pub placed_standing : (d : Day) (o : Order) → Standing d → Placeable d o → Standing (placed d o).day
unfolding placed admitted block_for
placed_standing d o g a =
    let p = o.participant in
    let ok = a.order in
    let rules = g.backed.rules_ok in
    record {
      backed =
          relist (o ∷ []) [] (d.waiting ++ (o ∷ [])) (admitted d o)
          (block_backed d o ok.participant ok.security g.backed a.covers)
          (λ y j. omega (arith, sum_append (need_at y d.rules d.turnover j) d.waiting (o ∷ [])));
      orders = all_append (OrderOk d.rules) d.waiting (o ∷ []) g.orders (ok, tt);
      codes = numbered_enter d d.waiting o rules g.limit ok.participant a.arrival a.code g.codes;
      kinds = all_append (KindOk d) d.waiting (o ∷ []) g.kinds (a.kind, tt);
      limit = codes_ok_next d p rules g.limit ok.participant a.left;
      room = omega (arith, length-append d.waiting (o ∷ []), ltb-true (length d.waiting) max_waiting a.room);
      turnover_length = g.turnover_length;
      turnovers = λ s hs.
          let c = g.turnovers s hs in
          record {
            top = omega (arith, c.top, given_next d p rules g.limit ok.participant);
            low = c.low;
            high = c.high;
          };
    }
