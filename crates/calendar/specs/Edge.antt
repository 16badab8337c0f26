-- Dates and second parts at their edges (T-06): computed on the definition, as one joint theorem.
use Rattle.std.specs.Prelude.{◌≡◌, refl, true, false, ◌*◌, ◌+◌}
use Rattle.market.specs.Limits.{last_day, max_first_sum, max_offer_rate}
use Rattle.market.specs.Needs.{nearest}
use Rattle.market.specs.FirstDays.{first_days}
use Rattle.market.specs.Calendar.{begun, day_count, days_in, first_day, is_leap, length_at, long_days, second_sum}
use Rattle.market.specs.Calendar.{short_days, year_length, year_of, years}

-- the cases, a field each
pub record CalendarEdge : Type 0 where
  -- the calendar's rule: 2000 is a leap year, 2100, 2200 and 2300 are not
  pub fourth : is_leap 1972 ≡ true
  pub common : is_leap 1973 ≡ false
  pub century : is_leap 2100 ≡ false
  pub fourth_century : is_leap 2000 ≡ true
  -- "the first days of the years 1970 to 2369": 2000 begins on day 10,957, and the table ends with 31 December 2369
  pub thirtieth : first_day 30 ≡ 10957
  pub after_last : first_day years ≡ 146097
  pub new_years_eve : year_of 10956 ≡ 29
  pub new_years_day : year_of 10957 ≡ 30
  pub first_of_all : year_of 0 ≡ 0
  pub last_of_all : year_of last_day ≡ 399
  -- "the days after the first day, up to and with the due day": 30 December 1971 and 3 days, one of them in 1971
  pub into_long : day_count 728 3 ≡ 366 * 1 + 365 * 2
  pub into_long_short : short_days 728 3 ≡ 1
  pub into_long_long : long_days 728 3 ≡ 2
  -- 30 December 1972 and 3 days, one of them in 1972
  pub out_of_long : day_count 1094 3 ≡ 366 * 2 + 365 * 1
  -- 28 February and 2 days: the day after is 29 February 2024, or 1 March 2023
  pub leap_day : day_count 19781 2 ≡ 365 * 2
  pub no_leap_day : day_count 19416 2 ≡ 366 * 2
  -- 28 February 1972 and 365 days: 307 of them in 1972
  pub across_leap_day : day_count 788 365 ≡ 366 * 58 + 365 * 307
  -- 31 December 1971 and 365 days, all in 1972
  pub all_long : long_days 729 365 ≡ 365
  -- 28 February 2100 and 2 days
  pub centurys_term : day_count 47540 2 ≡ 366 * 2
  -- up to the table's last day, from the day before and from the last of 2368
  pub last_term : day_count 146095 1 ≡ 366
  pub last_long : day_count 145729 3 ≡ 366 * 1 + 365 * 2
  -- "nearest unit, half up": half of one percent for 1 day of 1973, on 36,500 exactly half a unit, on 36,499 less
  pub half : second_sum 36500 50 1095 1 ≡ 36501
  pub below_half : second_sum 36499 50 1095 1 ≡ 36499
  -- and for 1 day of 1972 on 36,600
  pub long_half : second_sum 36600 50 729 1 ≡ 36601
  pub long_below : second_sum 36599 50 729 1 ≡ 36599
  pub long_less : second_sum 36500 50 729 1 ≡ 36500
  -- a whole year of 365 days at 50 percent pays half: no second sum is larger (law `second_range`)
  pub largest : second_sum max_first_sum max_offer_rate 364 365 ≡ 15000000000
  pub no_rate : second_sum 36500 0 1095 1 ≡ 36500

-- all of them hold
pub calendar_edge : CalendarEdge
unfolding first_days begun is_leap year_length year_of length_at days_in day_count second_sum nearest
calendar_edge = record {
  fourth = refl;
  common = refl;
  century = refl;
  fourth_century = refl;
  thirtieth = refl;
  after_last = refl;
  new_years_eve = refl;
  new_years_day = refl;
  first_of_all = refl;
  last_of_all = refl;
  into_long = refl;
  into_long_short = refl;
  into_long_long = refl;
  out_of_long = refl;
  leap_day = refl;
  no_leap_day = refl;
  across_leap_day = refl;
  all_long = refl;
  centurys_term = refl;
  last_term = refl;
  last_long = refl;
  half = refl;
  below_half = refl;
  long_half = refl;
  long_below = refl;
  long_less = refl;
  largest = refl;
  no_rate = refl;
}
