-- What lasts from day to day, around the trading day (T-06): the date and the open deals. The day knows nothing of them.
use Rattle.std.specs.Prelude.{ℕ, List, Bool, length}
use Rattle.market.specs.declared.Deal.{Deal}
use Rattle.market.specs.declared.Floor.{Floor}
use Rattle.market.specs.declared.Records.{Records}
use Rattle.market.specs.declared.Rules.{Rules}
use Rattle.market.specs.declared.State.{State}
use Rattle.market.specs.Limits.{last_day, max_deals}
use Rattle.market.specs.Tests.{◌and◌, ◌≤?◌, all_of}
use Rattle.market.specs.Day.{Day}
use Rattle.market.specs.View.{day_of, first_of}
use Rattle.market.specs.Sound.{sound}
use Rattle.market.specs.Deals.{by_age, deal_sound, no_deal}

-- a State as far as it is read
pub record Ledger : Type 0 where
  pub day : Day
  -- in days from 1970
  pub date : ℕ
  -- "Open deals are listed oldest first"
  pub deals : List Deal

-- the ledger with another day
abbrev pub with_day : Ledger → Day → Ledger
with_day l d = record { day = d; date = l.date; deals = l.deals }

-- the first n deals
abbrev pub first_deals : ℕ → List Deal → List Deal
first_deals n deals = first_of no_deal n deals

-- the ledger of a day and its records
abbrev pub around : Day → Records → Ledger
around d z = record { day = d; date = z.date; deals = first_deals z.count z.deals }

-- the ledger of a floor and records
abbrev pub ledger_of : Rules → Floor → Records → Ledger
ledger_of r f z = around (day_of r f) z

-- the ledger that a State holds
abbrev pub whole : State → Ledger
whole s = ledger_of s.rules s.floor s.records

-- records: a date of the table, "while 64 deals are open" no more, each as above, oldest first and none from a later day
unfoldable pub records_sound : Rules → ℕ → List Deal → Bool
records_sound r date deals =
    date ≤? last_day
    and length deals ≤? max_deals
    and all_of (deal_sound r) deals
    and by_age 0 date deals

-- "Sound means", with what the requests add outside the day
unfoldable pub ledger_sound : Ledger → Bool
ledger_sound l = sound l.day and records_sound l.day.rules l.date l.deals
