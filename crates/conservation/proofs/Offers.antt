-- An accepted offer keeps Good: in the book it "waits like a kept order", and a first part leaves Q and T alone (T-06).
use native.Mathlib.Omega.{arith}
use mathlib.Core.List.{[], ◌∷◌, ◌++◌}
use lib.ListN.{length}
use Rattle.market.specs.declared.Order.{Order}
use Rattle.market.specs.declared.Rules.{Rules}
use Rattle.market.specs.Day.{Day}
use Rattle.market.specs.Needs.{price_or}
use Rattle.market.specs.Positions.{block_for}
use Rattle.market.specs.Waiting.{Index, first_index, nowhere, somewhere}
use Rattle.market.specs.Entry.{admitted, placed}
use Rattle.market.specs.Matching.{if_buy}
use Rattle.market.specs.Offers.{counter_offer, meets, offered, offered_by}
use Rattle.market.proofs.Offers.{FoundAt, IsOffer, first_found, offer_fits, offers_meet}
use Rattle.invariant.specs.Standing.{Placeable}
use Rattle.conservation.specs.Book.{Book, feed_first_parts, with_orders}
use Rattle.conservation.specs.Statement.{shown}
use Rattle.conservation.proofs.Good.{Good}
use Rattle.conservation.proofs.Pairs.{pair_good}
use Rattle.conservation.proofs.Sessions.{placed_good}

pub offered_good : {U : Type 0} {r : Rules} (b : Book) (d : Day) (e : Order) → Good U r b d → IsOffer e.kind → Placeable d e
    → Good U r (feed_first_parts r (with_orders b (b.waiting ++ (shown e ∷ []))) (offered d e).trades) (offered d e).day
unfolding offered counter_offer placed admitted block_for feed_first_parts
offered_good {U} {r} b d e g o a = go (first_index (meets e) d.waiting) (first_found (meets e) d.waiting)
  where
    b' : Book
    b' = with_orders b (b.waiting ++ (shown e ∷ []))

    waits : Good U r b' (placed d e).day
    waits = placed_good b d e g (λ h. offer_fits e o d.waiting) a

    go : (x : Index) → FoundAt (meets e) d.waiting x
        → Good U r (feed_first_parts r b' (offered_by x d e).trades) (offered_by x d e).day
    go nowhere h = waits
    go (somewhere i) h =
        let m = offers_meet d.turnover d.waiting e i h.0 h.1 in
        let last = length d.waiting in
        pair_good b' (placed d e).day waits b.turnover g.agree.turnover e.security (price_or 0 e.kind)
        (if_buy e.side last i) (if_buy e.side i last) e.lots m.0.stands m.1.stands
        (omega (arith, m.0.price)) (omega (arith, m.0.lots)) (omega (arith, m.1.lots))
