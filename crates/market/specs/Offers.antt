-- Repurchase offers (T-06): which meets which, and what an accepted one does to the day.
use Rattle.std.specs.Prelude.{ℕ, List, Bool, false, length}
use Rattle.market.specs.declared.Kind.{Kind}
use Rattle.market.specs.declared.Kind.TheVariants as kind
use Rattle.market.specs.declared.Order.{Order}
use Rattle.market.specs.declared.Ticket.{Ticket}
use Rattle.market.specs.Tests.{◌=?◌, ◌and◌}
use Rattle.market.specs.Day.{Day}
use Rattle.market.specs.Codes.{new_order}
use Rattle.market.specs.Needs.{price_or}
use Rattle.market.specs.Waiting.{Index, first_index, nowhere, somewhere}
use Rattle.market.specs.Answers.{Result, done}
use Rattle.market.specs.Matching.{if_buy, opposite}
use Rattle.market.specs.Entry.{placed}
use Rattle.market.specs.Pairing.{Paired, pair_one}

-- an offer as it enters: "to buy or to sell, names security, lots, price, rate .., and term"
abbrev pub offer_of : Day → ℕ → Ticket → (rate term : ℕ) → Order
offer_of d p m rate term = new_order d p m.side m.security m.lots (kind.Offer rate term m.price)

-- two offers, of equal price, rate and term
abbrev pub same_offer : Kind → Kind → Bool
same_offer (kind.Offer rate term p) (kind.Offer rate' term' q) = p =? q and rate =? rate' and term =? term'
same_offer (kind.Offer rate term p) (kind.Kept q) = false
same_offer (kind.Offer rate term p) kind.Closing = false
same_offer (kind.Kept p) k = false
same_offer kind.Closing k = false

-- a waiting o is a "counter offer with all of these equal (point 111)" to the entry e: security, lots, price, rate, term
unfoldable pub meets : Order → Order → Bool
meets e o =
    e.security =? o.security
    and e.lots =? o.lots
    and opposite e.side o.side
    and same_offer e.kind o.kind

-- where "the oldest" of them stands: the list is by rising arrival
unfoldable pub counter_offer : Order → List Order → Index
counter_offer e w = first_index (meets e) w

-- the first part: the entry, which stands last, trades whole with the counter offer at place i, at the price of both;
-- "The first part settles as a trade, outside Q and T"
abbrev pub first_part : Day → Order → ℕ → Paired
first_part d e i =
    let last = length d.waiting in
    pair_one (placed d e).day (if_buy e.side last i) (if_buy e.side i last) (price_or 0 e.kind) e.lots

-- an offer that meets none "waits among the 128"
abbrev pub offered_by : Index → Day → Order → Result
offered_by nowhere d e = placed d e
offered_by (somewhere i) d e = done e.code e.lots 0 (first_part d e i).day (first_part d e i).trades

-- an accepted offer: "It meets the oldest counter offer .., never an order"
unfoldable pub offered : Day → Order → Result
offered d e = offered_by (counter_offer e d.waiting) d e
