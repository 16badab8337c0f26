-- Dates, and the sum of a repurchase deal's second part (T-06).
use Rattle.std.specs.Prelude.{ℕ, suc, ◌+◌, ◌*◌, ◌-◌, ◌%◌, List, [], ◌∷◌, Bool, cond, get_or}
use Rattle.market.specs.Limits.{last_day}
use Rattle.market.specs.FirstDays.{first_days}
use Rattle.market.specs.Needs.{nearest}
use Rattle.market.specs.Tests.{◌=?◌, ◌≤?◌, sum_below}

-- how many years the table has, and the first of them
abbrev pub years : ℕ
years = 400

abbrev pub first_year : ℕ
first_year = 1970

-- the first day of the year first_year + y; after the table's last year comes the day after its last
abbrev pub first_day : ℕ → ℕ
first_day y = get_or first_days y (last_day + 1)

-- the calendar's rule: every fourth year is a leap year, but of the years that end a century only every fourth
unfoldable pub is_leap : ℕ → Bool
is_leap year = cond (year % 100 =? 0) (year % 400 =? 0) (year % 4 =? 0)

abbrev pub short_year : ℕ
short_year = 365

abbrev pub long_year : ℕ
long_year = 366

unfoldable pub year_length : ℕ → ℕ
year_length year = cond (is_leap year) long_year short_year

-- how many of the years that begin on these days, one after the other, have begun by this day
unfoldable pub begun : ℕ → List ℕ → ℕ
begun day [] = 0
begun day (first ∷ later) = cond (first ≤? day) (suc (begun day later)) 0

-- the year in which a day falls, 0 for 1970: the last that has begun
unfoldable pub year_of : ℕ → ℕ
year_of day = begun day first_days - 1

-- how many days that year has
unfoldable pub length_at : ℕ → ℕ
length_at day = year_length (first_year + year_of day)

-- "the days after the first day, up to and with the due day, that fall in years of" this length
unfoldable pub days_in : ℕ → ℕ → ℕ → ℕ
days_in length first term = sum_below term (λ k. cond (length_at (first + suc k) =? length) 1 0)

-- "d1 and d2": in years of 365 days, and of 366
abbrev pub short_days : ℕ → ℕ → ℕ
short_days first term = days_in short_year first term

abbrev pub long_days : ℕ → ℕ → ℕ
long_days first term = days_in long_year first term

-- "366 × d1 + 365 × d2"
unfoldable pub day_count : ℕ → ℕ → ℕ
day_count first term = long_year * short_days first term + short_year * long_days first term

-- "365 × 366 × 10,000"
abbrev pub second_unit : ℕ
second_unit = short_year * long_year * 10000

-- "S1 + S1 × rate × (366 × d1 + 365 × d2) / (365 × 366 × 10,000), nearest unit, half up"
unfoldable pub second_sum : ℕ → ℕ → ℕ → ℕ → ℕ
second_sum sum rate first term = sum + nearest (sum * rate * day_count first term) second_unit
