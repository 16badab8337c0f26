-- What lines take of a lent buffer at most.
use Rattle.std.specs.Prelude.{◌≡◌, ℕ, ◌+◌, ◌*◌, ◌≤◌, List, length}
use Rattle.market.specs.Limits.{max_currencies, max_deals, max_participants, max_securities, max_waiting}
use Rattle.printing.specs.Buffer.{line_room, worded_room}

-- from place `at` on at most n bytes are put, up to place r; the buffer keeps its length
pub record Adds (n : ℕ) (before : List ℕ) (at : ℕ) (after : List ℕ) (r : ℕ) : Type 0 where
  pub size : length after ≡ length before
  pub most : r ≤ at + n

abbrev pub positions_room : ℕ
positions_room = max_participants * (max_currencies + max_securities) * line_room 4

abbrev pub phase_room : ℕ
phase_room = 17

abbrev pub turnover_room : ℕ
turnover_room = worded_room 8 3

abbrev pub codes_room : ℕ
codes_room = worded_room 5 2

abbrev pub side_room : ℕ
side_room = 2

-- kind, price and the line's end; the longest is an offer's, with rate and term
abbrev pub kind_room : ℕ
kind_room = worded_room 6 3

-- a waiting order's line: its word, four numbers, side, kind and price
abbrev pub waits_room : ℕ
waits_room = 5 + 21 * 4 + side_room + kind_room

abbrev pub account_room : ℕ
account_room = worded_room 6 2

abbrev pub date_room : ℕ
date_room = worded_room 4 1

-- an open deal's line: its word and eleven numbers
abbrev pub deal_room : ℕ
deal_room = worded_room 4 11

-- date and open deals
abbrev pub records_room : ℕ
records_room = date_room + max_deals * deal_room

-- the lines of the end but for the market's account and the records
abbrev pub day_room : ℕ
day_room =
    positions_room + phase_room + max_securities * turnover_room + max_participants * codes_room + max_waiting * waits_room

-- all of them
abbrev pub end_room : ℕ
end_room = day_room + max_currencies * account_room + records_room

-- what a command, with the lines that SHOW prints, or the end take at most
abbrev pub room : ℕ
room = 81920

-- counts within their limits
pub record Counts (participants currencies securities count : ℕ) : Type 0 where
  pub few_participants : participants ≤ max_participants
  pub few_currencies : currencies ≤ max_currencies
  pub few_securities : securities ≤ max_securities
  pub few_orders : count ≤ max_waiting
