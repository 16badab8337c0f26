-- `matching::write_trade` meets its contract: the part of the list that is written holds the trade's numbers.
use Prim.Native.Nat.{ℕ, ◌*◌}
use native.Mathlib.Omega.{arith}
use mathlib.Core.Path.{◌∙◌, ◌≡◌, refl}
use mathlib.Core.List.{List}
use lib.Seq.{paste}
use Rattle.std.proofs.lemmas.Slice.{put_mid-paste}
use Rattle.market.specs.Limits.{numbers_per_trade}
use Rattle.market.specs.TradeList.{Trade, numbers}
use Rattle.matching.specs.Written.{trade_as, trade_written}
use Rattle.matching.proofs.write_trade.Goals as goal

pasted : (l : List ℕ) (n : ℕ) (t : Trade) {i : ℕ} → i ≡ numbers_per_trade * n
    → paste l i (numbers t) numbers_per_trade ≡ trade_written n t l
unfolding trade_written
pasted l n t e = rw e

pub returns : goal.returns
returns c =
    let a = c.args in
    let t = trade_as a.buy a.sell a.price a.lots a.sum in
    put_mid-paste _ _ _ _ (numbers t) _ c.copy_from_slice.ensures.after (omega arith) refl
    ∙ pasted a.trades.now a.at t (omega arith)
