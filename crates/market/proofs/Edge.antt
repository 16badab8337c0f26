-- The ● cases hold.
use mathlib.Core.Path.{refl}
use Rattle.market.specs.Edge.{Edge, after, closing, empty, funded, gives, lent, list_after, offered, start, two_trades}
use Rattle.market.specs.Edge.{unfilled_pair}
use Rattle.market.proofs.Step.{refused_unchanged}

pub edge : Edge
unfolding after gives list_after empty funded start offered two_trades closing
edge = record {
  enough = refl;
  one_short = refl;
  off_step = refl;
  price_zero = refl;
  traded = refl;
  trade_sum = refl;
  blocked = refl;
  not_whole = refl;
  not_covered = refl;
  immediate = refl;
  none_waits = refl;
  second_member = refl;
  undone = (refused_unchanged offered lent unfilled_pair refl).0;
  unwritten = refl;
  group_of_one = refl;
  group_of_nine = refl;
  turnover = refl;
  closing_at = refl;
  ended = refl;
  end_trades = refl;
  end_turnover = refl;
}
