-- What holds between the book and the ledger.
use mathlib.Core.Path.{◌≡◌}
use mathlib.Core.Bool.{true}
use Rattle.market.specs.declared.Rules.{Rules}
use Rattle.market.specs.Ledger.{Ledger, ledger_sound}
use Rattle.market.proofs.Logic.{both}
use Rattle.market.proofs.Deals.{RecordsOk, records_sound_lem}
use Rattle.conservation.proofs.Good.{Good}
use Rattle.conservation.proofs.Sound.{good_sound}
use Rattle.journal.specs.LedgerBook.{LedgerBook}

-- between acts; r is the opening's arguments, and U says whether buys are known to stand below sells
pub record GoodLedger (U : Type 0) (r : Rules) (j : LedgerBook) (l : Ledger) : Type 0 where
  pub good : Good U r j.book l.day
  pub date : j.date ≡ l.date
  pub deals : j.deals ≡ l.deals
  pub records : RecordsOk r l.date l.deals

pub ledger_sound_lem : {U : Type 0} {r : Rules} (j : LedgerBook) (l : Ledger) → GoodLedger U r j l → ledger_sound l ≡ true
unfolding ledger_sound
ledger_sound_lem {U} {r} j l g =
    both (good_sound j.book l.day g.good)
    (rw (← g.good.agree.rules) (records_sound_lem r l.date l.deals g.records))
