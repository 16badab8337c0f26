-- Calls outside continuous trading keep Good: orders that only wait, and the pairing under the terms of each session.
use Prim.Native.Nat.{ℕ}
use mathlib.Core.Path.{◌≡◌, refl, ap, sym, ◌∙◌}
use mathlib.Core.List.{[], ◌∷◌, ◌++◌}
use mathlib.Core.Bool.{Bool, true, false}
use Rattle.market.specs.declared.Order.{Order}
use Rattle.market.specs.declared.Phase.{Phase}
use Rattle.market.specs.declared.Phase.TheVariants.{Closing, Collecting, Open}
use Rattle.market.specs.declared.Rules.{Rules}
use Rattle.market.specs.declared.Side.{Side}
use Rattle.market.specs.declared.Ticket.{Ticket}
use Rattle.market.specs.declared.TimeInForce.TheVariants.{Kept}
use Rattle.market.specs.Day.{Day}
use Rattle.market.specs.Positions.{block_for}
use Rattle.market.specs.Sound.{is_closing, is_collecting}
use Rattle.market.specs.Calls.{closing_of, entry_of}
use Rattle.market.specs.Phases.{order_access}
use Rattle.market.specs.Questions.{closing_questions, first_no, order_questions}
use Rattle.market.specs.Entry.{admitted, placed}
use Rattle.market.specs.Pairing.{pairs_from}
use Rattle.market.specs.Closing.{closing_terms}
use Rattle.market.specs.Auction.{auction_terms}
use Rattle.market.specs.Matching.{fits}
use Rattle.market.proofs.Logic.{never}
use Rattle.market.proofs.Lists.{All}
use Rattle.market.proofs.Matching.{uncrossed_append}
use Rattle.market.proofs.Questions.{all_yes, yes}
use Rattle.market.proofs.Phases.{closing_phase}
use Rattle.invariant.specs.Standing.{Placeable}
use Rattle.invariant.proofs.Pairing.{auction_fair, closing_fair}
use Rattle.invariant.proofs.Placed.{closing_placeable, kept_placeable, placed_standing}
use Rattle.conservation.specs.Book.{Book, with_orders}
use Rattle.conservation.specs.Statement.{shown}
use Rattle.conservation.proofs.Listed.{shown_append}
use Rattle.conservation.proofs.Good.{Good, relisted}
use Rattle.conservation.proofs.Blocks.{block_agree}
use Rattle.conservation.proofs.Pairs.{PairedOk, pairs_from_ok}

-- an order that only waits, while open one that fits none of those waiting
pub placed_good : {U : Type 0} {r : Rules} (b : Book) (d : Day) (o : Order) → Good U r b d
    → (d.phase ≡ Open → All (λ x. fits o x ≡ false) d.waiting)
    → Placeable d o → Good U r (with_orders b (b.waiting ++ (shown o ∷ []))) (placed d o).day
unfolding placed admitted block_for
placed_good b d o g none a =
    let v = b.waiting ++ (shown o ∷ []) in
    record {
      standing = placed_standing d o g.standing a;
      agree =
          relisted v (d.waiting ++ (o ∷ [])) (with_orders b v) (admitted d o)
          (block_agree v b d o a.order.participant a.order.security [] g.standing.backed g.agree a.covers);
      waiting = rw g.waiting (sym (shown_append d.waiting (o ∷ [])));
      uncrossed = λ u h. uncrossed_append d.waiting o (g.uncrossed u h) (none h);
    }

-- a phase that passes a test which open fails
not_open : (f : Phase → Bool) (x : Phase) → f Open ≡ false → f x ≡ true → x ≡ Open → ⊥
not_open f x a b e = never (sym a ∙ ap f (sym e) ∙ b)

pub closing_order_good : {U : Type 0} {r : Rules} (b : Book) (d : Day) (p : ℕ) (x : Side) (s n : ℕ) → Good U r b d
    → first_no (closing_questions d p x s n) ≡ 0
    → Good U r (with_orders b (b.waiting ++ (shown (closing_of d p x s n) ∷ [])))
    (placed d (closing_of d p x s n)).day
unfolding closing_questions
closing_order_good b d p x s n g e =
    let qs = closing_questions d p x s n in
    placed_good b d (closing_of d p x s n) g
    (λ h. absurd (not_open is_closing d.phase refl (ap is_closing (closing_phase d.phase (yes 6 qs (all_yes qs tt e)))) h))
    (closing_placeable d p x s n e)

-- a kept order while collecting
pub collected_good : {U : Type 0} {r : Rules} (b : Book) (d : Day) (p : ℕ) (m : Ticket) → Good U r b d
    → d.phase ≡ Collecting → first_no (order_questions d p m (order_access Kept) Kept) ≡ 0
    → Good U r (with_orders b (b.waiting ++ (shown (entry_of d p m) ∷ []))) (placed d (entry_of d p m)).day
collected_good b d p m g phase e =
    placed_good b d (entry_of d p m) g
    (λ h. absurd (not_open is_collecting d.phase refl (ap is_collecting phase) h)) (kept_placeable d p m e)

-- the pairing at the session's end
pub closing_paired : {U : Type 0} {r : Rules} (b : Book) (d : Day) → Good U r b d → d.phase ≡ Closing
    → PairedOk U r b d (pairs_from closing_terms d.rules.securities 0 d)
closing_paired b d g e =
    pairs_from_ok closing_terms Closing (not_open is_closing Closing refl refl) (λ b' d' s g' e'. closing_fair d' s g'.standing e')
    d.rules.securities 0 b d g e

-- and at the end of collecting
pub auction_paired : {U : Type 0} {r : Rules} (b : Book) (d : Day) → Good U r b d → d.phase ≡ Collecting
    → PairedOk U r b d (pairs_from auction_terms d.rules.securities 0 d)
auction_paired b d g e =
    pairs_from_ok auction_terms Collecting (not_open is_collecting Collecting refl refl) (λ b' d' s g' e'. auction_fair d' s)
    d.rules.securities 0 b d g e
