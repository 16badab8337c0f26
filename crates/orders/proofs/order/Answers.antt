-- `orders::order` meets its contract: question 2, those from 4 to 15, then the order waits while collecting, or enters.
use Rattle.std.proofs.Common.{◌≡◌, true, false, rules, sym}
use Rattle.market.specs.Sound.{is_collecting}
use Rattle.invariant.proofs.Sound.{ready_standing}
use Rattle.orders.proofs.Calling.{enters_now, in_lots, numberable, order_enters, order_waits, refuse_asked, refuse_short, waits}
use Rattle.orders.proofs.order.Goals as goal

pub returns-then-trades-lt-LENT_AT_LEAST : goal.returns-then-trades-lt-LENT_AT_LEAST
returns-then-trades-lt-LENT_AT_LEAST c =
    let a = c.args in
    rw c.from.ensures
    (refuse_short a.rules.now a.floor.now c.requires a.participant a.ticket a.force a.trades.now
    c.if-trades-lt-LENT_AT_LEAST.true)

pub refusal_of-asked-requires : goal.refusal_of-asked-requires
refusal_of-asked-requires c = ready_standing c.requires

pub returns-in-Err : goal.returns-in-Err
returns-in-Err c =
    let a = c.args in
    rw c.from-in-Err.ensures
    (refuse_asked a.rules.now a.floor.now c.requires a.participant a.ticket a.force a.trades.now
    c.if-trades-lt-LENT_AT_LEAST.false c.access_of.ensures c.in-Err.refusal c.in-Err.ensures)

pub entry_of-entry-requires : goal.entry_of-entry-requires
entry_of-entry-requires c =
    let a = c.args in
    let none = sym c.in_default.ensures in (
      numberable a.rules.now a.floor.now (ready_standing c.requires) a.participant a.ticket _ a.force none,
      in_lots a.rules.now a.floor.now (ready_standing c.requires) a.participant a.ticket _ a.force none,
    )

pub append-requires : goal.append-requires
append-requires c =
    let a = c.args in
    let collects : is_collecting a.floor.now.phase ≡ true = search rules in (
      ready_standing c.requires,
      waits a.rules.now a.floor.now c.requires a.participant a.ticket a.force a.trades.now
          c.if-trades-lt-LENT_AT_LEAST.false c.access_of.ensures c.in_default.ensures c.entry_of-entry.ensures collects,
    )

pub returns-then-eq : goal.returns-then-eq
returns-then-eq c =
    let a = c.args in
    let collects : is_collecting a.floor.now.phase ≡ true = search rules in
    order_waits a.rules.now a.floor.now c.requires a.participant a.ticket a.force a.trades.now
    c.if-trades-lt-LENT_AT_LEAST.false c.access_of.ensures c.in_default.ensures c.entry_of-entry.ensures collects
    c.append.ensures.answer c.append.ensures.day

pub enter-requires : goal.enter-requires
enter-requires c =
    let a = c.args in
    let matched : is_collecting a.floor.now.phase ≡ false = search rules in
    enters_now a.rules.now a.floor.now c.requires a.participant a.ticket a.force a.trades.now
    c.if-trades-lt-LENT_AT_LEAST.false c.access_of.ensures c.in_default.ensures c.entry_of-entry.ensures matched

pub returns : goal.returns
returns c =
    let a = c.args in
    let matched : is_collecting a.floor.now.phase ≡ false = search rules in
    order_enters a.rules.now a.floor.now c.requires a.participant a.ticket a.force a.trades.now
    c.if-trades-lt-LENT_AT_LEAST.false c.access_of.ensures c.in_default.ensures c.entry_of-entry.ensures matched
    c.enter.ensures
