-- `dealings::offer` meets its contract: question 2, those from 4 on, then the offer enters.
use mathlib.Core.Path.{sym}
use Rattle.dealings.proofs.Offering.{refuse_asked, refuse_short}
use Rattle.dealings.proofs.Second.{standing}
use Rattle.dealings.proofs.offer.Goals as goal

pub returns-then-trades-lt-LENT_AT_LEAST : goal.returns-then-trades-lt-LENT_AT_LEAST
returns-then-trades-lt-LENT_AT_LEAST c =
    rw c.from.ensures (refuse_short c.requires c.args.proposal c.args.trades.now c.if-trades-lt-LENT_AT_LEAST.true)

pub offer_no-requires : goal.offer_no-requires
offer_no-requires c = standing c.args.rules.now c.args.floor.now c.args.records.now c.requires

pub returns-in-Err : goal.returns-in-Err
returns-in-Err c =
    rw c.from-in-Err.ensures
    (refuse_asked c.requires c.args.proposal c.args.trades.now c.if-trades-lt-LENT_AT_LEAST.false c.in-Err.refusal c.in-Err.ensures)

pub entered-requires : goal.entered-requires
entered-requires c = record {
  ready = c.requires;
  lent = c.if-trades-lt-LENT_AT_LEAST.false;
  asked = sym c.in_default.ensures;
}
