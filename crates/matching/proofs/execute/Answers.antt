-- `matching::execute` meets its contract: fall, pieces, value and sum are reckoned once, and are the definition's.
use native.Mathlib.Omega.{arith}
use mathlib.Core.Path.{refl}
use Rattle.matching.proofs.Settling.{counts_as, executed_as, settles_as}
use Rattle.matching.proofs.execute.Goals as goal

pub fall_of-fall-requires : goal.fall_of-fall-requires
fall_of-fall-requires c = rw c.listing-listing.ensures c.requires.reckoned

pub overflow_mul-value : goal.overflow_mul-value
overflow_mul-value c =
    omega (arith, (counts_as c.requires c.listing-listing.ensures refl c.fall_of-fall.ensures c.pieces_of-sold.ensures).low)

pub money_for-sum-requires : goal.money_for-sum-requires
money_for-sum-requires c = (
  rw c.listing-listing.ensures c.requires.reckoned.listing.nominal,
  (counts_as c.requires c.listing-listing.ensures refl c.fall_of-fall.ensures c.pieces_of-sold.ensures).low,
)

pub settle-requires : goal.settle-requires
settle-requires c =
    settles_as c.requires c.listing-listing.ensures refl c.fall_of-fall.ensures c.pieces_of-sold.ensures c.money_for-sum.ensures

pub counted-requires : goal.counted-requires
counted-requires c = counts_as c.requires c.listing-listing.ensures refl c.fall_of-fall.ensures c.pieces_of-sold.ensures

pub returns : goal.returns
returns c =
    executed_as c.requires c.listing-listing.ensures refl c.fall_of-fall.ensures c.pieces_of-sold.ensures c.money_for-sum.ensures
    c.settle.ensures c.write_trade.ensures c.counted.ensures
