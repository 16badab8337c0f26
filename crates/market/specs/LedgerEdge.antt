-- Repurchase deals at their edges (T-06): computed on the definition, as one joint theorem. The rate of the tariff is 1,000
-- hundred-thousandths, a lot 10 pieces, a step 5. Day 1095 is 31 December 1972.
use Rattle.std.specs.Prelude.{ℕ, ◌≡◌, refl, List, [], ◌∷◌, true, false, replicate, set}
use Rattle.market.specs.declared.Deal.{Deal}
use Rattle.market.specs.declared.Phase.TheVariants.{Open}
use Rattle.market.specs.declared.Side.TheVariants.{Buy, Sell}
use Rattle.market.specs.declared.Ticket.{Ticket}
use Rattle.market.specs.declared.TimeInForce.TheVariants.{Kept}
use Rattle.market.specs.declared.Asset.TheVariants.{Money, Pieces}
use Rattle.market.specs.Day.{Position, account, cell, no_turnover, position, turnover_at, with_codes}
use Rattle.market.specs.Codes.{no_codes}
use Rattle.market.specs.FirstDays.{first_days}
use Rattle.market.specs.Calendar.{begun, day_count, days_in, is_leap, length_at, second_sum, year_length, year_of}
use Rattle.market.specs.Answers.{Numbers, numbers_of}
use Rattle.market.specs.Offers.{counter_offer, meets, offered}
use Rattle.market.specs.Deals.{begins, by_age, deal_sound, handed, loan_sound, second_paid, term_sound}
use Rattle.market.specs.Ledger.{Ledger, ledger_sound, records_sound}
use Rattle.market.specs.Acts.{Act, decrease, end_session, increase, new_day, offer, order, second_part}
use Rattle.market.specs.Acts.{start_closing, start_collecting}
use Rattle.market.specs.ActStep.{act_effect, act_questions, act_result, act_step, offer_questions, open_ledger, opened_ledger}
use Rattle.market.specs.Edge.{after, lent, refusal, registered}
use Rattle.market.specs.TariffEdge.{tariff_rules}

-- the ledger after these acts; whoever unfolds it unfolds the whole definition
unfoldable pub after_acts : Ledger → List Act → Ledger
unfolding after first_days begun is_leap year_length year_of length_at days_in day_count second_sum counter_offer meets offered
    term_sound loan_sound deal_sound by_age records_sound ledger_sound handed second_paid begins offer_questions act_questions
    act_effect act_result act_step opened_ledger open_ledger
after_acts l [] = l
after_acts l (a ∷ rest) = after_acts (act_step l lent a).ledger rest

-- the numbers that one more act answers
unfoldable pub answers : Ledger → Act → Numbers
answers l a = numbers_of (act_step l lent a).answer

-- what an opening with this rate, on this date, answers
unfoldable pub opens_on : ℕ → ℕ → Numbers
opens_on rate date = numbers_of (open_ledger (tariff_rules 10 5 rate) date).answer

-- a buy and a sell in security 0, at this price and of so many lots
abbrev pub buys : ℕ → ℕ → Ticket
buys price lots = record { side = Buy; security = 0; price = price; lots = lots }

abbrev pub sells : ℕ → ℕ → Ticket
sells price lots = record { side = Sell; security = 0; price = price; lots = lots }

-- participant 0 has 40,101, participant 1 has 4,000 pieces, and they trade a lot at 10: 40,000 and 99 are left
unfoldable pub started : ℕ → Ledger
started date =
    after_acts (open_ledger (tariff_rules 10 5 1000) date).ledger
    (increase Money 0 0 40101 ∷ increase Pieces 1 0 4000 ∷ order 1 (sells 10 1) Kept ∷ order 0 (buys 10 1) Kept ∷ [])

-- on day 1095 participant 1 offers to sell 365 lots at 10, 36,500 in all, for a day at 50 hundredths of a percent
unfoldable pub waits : Ledger
waits = after_acts (started 1095) (offer 1 (sells 10 365) 50 1 ∷ [])

-- participant 0 takes it
unfoldable pub lends : Ledger
lends = after_acts waits (offer 0 (buys 10 365) 50 1 ∷ [])

-- the day is closed, and the next one begun
unfoldable pub closes : Ledger
closes = after_acts lends (start_closing ∷ end_session ∷ [])

unfoldable pub next_day : Ledger
next_day = after_acts closes (new_day 1096 ∷ [])

-- participant 1 has 37,501 free, and participant 0 gets 36,501 of it for the pieces
unfoldable pub repays : Ledger
repays = after_acts next_day (increase Money 1 0 1267 ∷ second_part 1 ∷ [])

-- a second deal, of one lot, goes last, and the first one ends before it
unfoldable pub both : Ledger
both = after_acts lends (offer 1 (sells 10 1) 0 1 ∷ offer 0 (buys 10 1) 0 1 ∷ start_closing ∷ end_session ∷ new_day 1096 ∷ [])

-- participant 1's own offers meet
unfoldable pub own : Ledger
own = after_acts waits (increase Money 1 0 40000 ∷ offer 1 (buys 10 365) 50 1 ∷ start_closing ∷ end_session ∷ new_day 1096 ∷ [])

-- the deal of the first part
abbrev pub the_deal : Deal
the_deal = record { price = 10; first = 1095; lots = 365; rate = 50; term = 1; buyer = 0; seller = 1; security = 0 }

abbrev pub one_lot : Deal
one_lot = record { price = 10; first = 1095; lots = 1; rate = 0; term = 1; buyer = 0; seller = 1; security = 0 }

-- so many such deals are open, and so many codes given to participant 0
unfoldable pub crowded : ℕ → ℕ → Ledger
crowded deals codes = record { day = with_codes next_day.day (set no_codes 0 codes); date = 1096; deals = replicate deals the_deal }

-- money and pieces of participant p
abbrev pub money_in : Ledger → ℕ → Position
money_in l p = position l.day.money (cell p 0)

abbrev pub pieces_in : Ledger → ℕ → Position
pieces_in l p = position l.day.pieces (cell p 0)

-- the cases, a field each
pub record LedgerEdge : Type 0 where
  -- "The opening gets a date, 0 to 146,096"; "24 after 22 at the opening"
  pub last_opening : opens_on 1000 146096 ≡ registered 0 0 0 0
  pub late_opening : opens_on 1000 146097 ≡ refusal 24 0
  pub rate_first : opens_on 1001 146097 ≡ refusal 22 0
  -- an offer waits, then it is met and a deal is open
  pub offer_waits : answers (started 1095) (offer 1 (sells 10 365) 50 1) ≡ registered 2 0 365 0
  pub no_deal_yet : waits.deals ≡ []
  pub offer_met : answers waits (offer 0 (buys 10 365) 50 1) ≡ registered 2 365 0 1
  pub opened : lends.deals ≡ the_deal ∷ []
  pub sounds : ledger_sound lends ≡ true
  -- "It enters while open"
  pub collecting :
      answers (after_acts (open_ledger (tariff_rules 10 5 1000) 0).ledger (start_collecting ∷ [])) (offer 0 (buys 10 365) 50 1)
      ≡ refusal 6 0
  pub closing : answers (after_acts lends (start_closing ∷ [])) (offer 0 (buys 10 365) 50 1) ≡ refusal 6 0
  pub closed : answers closes (offer 0 (buys 10 365) 50 1) ≡ refusal 6 0
  -- "a term outside 1 to 365" and "a .. due day outside the table" 24, "a rate over 5,000 or S1 over 10^10" 25, in this order
  -- after 8
  pub shortest : answers lends (offer 0 (buys 10 1) 5000 1) ≡ registered 3 0 1 0
  pub longest : answers lends (offer 0 (buys 10 1) 5000 365) ≡ registered 3 0 1 0
  pub no_term : answers lends (offer 0 (buys 10 1) 5000 0) ≡ refusal 24 0
  pub term_over : answers lends (offer 0 (buys 10 1) 5000 366) ≡ refusal 24 0
  pub rate_over : answers lends (offer 0 (buys 10 1) 5001 365) ≡ refusal 25 0
  pub both_over : answers lends (offer 0 (buys 10 1) 5001 366) ≡ refusal 24 0
  pub price_first : answers lends (offer 0 (buys 11 1) 5001 366) ≡ refusal 8 0
  pub largest : answers lends (offer 0 (buys 100000 10000) 0 1) ≡ refusal 14 0
  pub sum_over : answers lends (offer 0 (buys 100005 10000) 0 1) ≡ refusal 25 0
  pub last_due : answers (started 146095) (offer 0 (buys 10 1) 0 1) ≡ registered 2 0 1 0
  pub late_due : answers (started 146095) (offer 0 (buys 10 1) 0 2) ≡ refusal 24 0
  -- "an offer while 64 deals are open with 26, before 13"
  pub full : answers (crowded 64 62500) (offer 0 (buys 10 1) 0 1) ≡ refusal 26 0
  pub room_left : answers (crowded 63 62500) (offer 0 (buys 10 1) 0 1) ≡ refusal 13 0
  pub code_left : answers (crowded 63 0) (offer 0 (buys 10 1) 0 1) ≡ registered 1 0 1 0
  pub too_many : ledger_sound (crowded 65 0) ≡ false
  -- "In the closed phase a call begins a later day", in the table
  pub day_open : answers lends (new_day 1096) ≡ refusal 6 0
  pub same_day : answers closes (new_day 1095) ≡ refusal 24 0
  pub no_day : answers closes (new_day 146097) ≡ refusal 24 0
  pub begins : answers closes (new_day 1096) ≡ registered 0 0 0 0
  -- "open, with Q, T and codes at zero and open deals kept"; positions stay
  pub traded : turnover_at closes.day.turnover 0 ≡ record { pieces = 10; value = 100 }
  pub untraded : turnover_at next_day.day.turnover 0 ≡ no_turnover
  pub phase : next_day.day.phase ≡ Open
  pub codes : next_day.day.codes ≡ no_codes
  pub date : next_day.date ≡ 1096
  pub kept : next_day.deals ≡ the_deal ∷ []
  pub money : money_in next_day 0 ≡ record { free = 3135; blocked = 0 }
  pub pieces : pieces_in next_day 0 ≡ record { free = 3660; blocked = 0 }
  pub money_other : money_in next_day 1 ≡ record { free = 36234; blocked = 0 }
  pub pieces_other : pieces_in next_day 1 ≡ record { free = 340; blocked = 0 }
  -- a second part: 16, 24, 14. On its first day it isn't due; on the next the first seller has 36,234, and owes 36,501
  pub no_place : answers lends (second_part 0) ≡ refusal 16 0
  pub no_other : answers lends (second_part 2) ≡ refusal 16 0
  pub early : answers lends (second_part 1) ≡ refusal 24 0
  pub short : answers next_day (second_part 1) ≡ refusal 14 0
  pub one_short : answers (after_acts next_day (increase Money 1 0 266 ∷ [])) (second_part 1) ≡ refusal 14 0
  pub sold : answers (after_acts next_day (increase Money 1 0 267 ∷ decrease Pieces 0 0 11 ∷ [])) (second_part 1) ≡ refusal 14 0
  pub enough : answers (after_acts next_day (increase Money 1 0 267 ∷ [])) (second_part 1) ≡ registered 0 0 0 0
  -- it "returns the pieces", without a fee, and the deal has ended
  pub repaid : money_in repays 1 ≡ record { free = 1000; blocked = 0 }
  pub received : money_in repays 0 ≡ record { free = 39636; blocked = 0 }
  pub returned : pieces_in repays 1 ≡ record { free = 3990; blocked = 0 }
  pub ten_left : pieces_in repays 0 ≡ record { free = 10; blocked = 0 }
  pub market : account repays.day.money 0 ≡ 732
  pub ended : repays.deals ≡ []
  pub twice : answers repays (second_part 1) ≡ refusal 16 0
  -- "Open deals are listed oldest first", and those behind an ended one close up
  pub oldest_first : both.deals ≡ the_deal ∷ one_lot ∷ []
  pub closes_up : (after_acts both (increase Money 1 0 300 ∷ second_part 1 ∷ [])).deals ≡ one_lot ∷ []
  pub second_of_two : (after_acts both (second_part 2 ∷ [])).deals ≡ the_deal ∷ []
  -- "in any phase on or after its due day", with interest up to the due day alone
  pub while_closing : answers (after_acts next_day (increase Money 1 0 267 ∷ start_closing ∷ [])) (second_part 1) ≡ registered 0 0 0 0
  pub while_closed :
      answers (after_acts next_day (increase Money 1 0 267 ∷ start_closing ∷ end_session ∷ [])) (second_part 1)
      ≡ registered 0 0 0 0
  pub later :
      money_in (after_acts closes (new_day 1500 ∷ increase Money 1 0 1267 ∷ second_part 1 ∷ [])) 1
      ≡ record { free = 1000; blocked = 0 }
  -- a deal with oneself needs both amounts, and moves none
  pub itself : money_in own 1 ≡ record { free = 39369; blocked = 0 }
  pub itself_paid : money_in (after_acts own (second_part 1 ∷ [])) 1 ≡ record { free = 39369; blocked = 0 }
  pub itself_ended : (after_acts own (second_part 1 ∷ [])).deals ≡ []
  pub itself_short : answers (after_acts own (decrease Money 1 0 3000 ∷ [])) (second_part 1) ≡ refusal 14 0

-- all of them hold
pub ledger_edge : LedgerEdge
unfolding after_acts answers opens_on started waits lends closes next_day repays both own crowded
ledger_edge = record {
  last_opening = refl;
  late_opening = refl;
  rate_first = refl;
  offer_waits = refl;
  no_deal_yet = refl;
  offer_met = refl;
  opened = refl;
  sounds = refl;
  collecting = refl;
  closing = refl;
  closed = refl;
  shortest = refl;
  longest = refl;
  no_term = refl;
  term_over = refl;
  rate_over = refl;
  both_over = refl;
  price_first = refl;
  largest = refl;
  sum_over = refl;
  last_due = refl;
  late_due = refl;
  full = refl;
  room_left = refl;
  code_left = refl;
  too_many = refl;
  day_open = refl;
  same_day = refl;
  no_day = refl;
  begins = refl;
  traded = refl;
  untraded = refl;
  phase = refl;
  codes = refl;
  date = refl;
  kept = refl;
  money = refl;
  pieces = refl;
  money_other = refl;
  pieces_other = refl;
  no_place = refl;
  no_other = refl;
  early = refl;
  short = refl;
  one_short = refl;
  sold = refl;
  enough = refl;
  repaid = refl;
  received = refl;
  returned = refl;
  ten_left = refl;
  market = refl;
  ended = refl;
  twice = refl;
  oldest_first = refl;
  closes_up = refl;
  second_of_two = refl;
  while_closing = refl;
  while_closed = refl;
  later = refl;
  itself = refl;
  itself_paid = refl;
  itself_ended = refl;
  itself_short = refl;
}
