-- The opening: its arguments asked, an empty day handed back.
use Rattle.std.specs.Prelude.{ℕ, zero, suc, List, [], ◌∷◌, cond, replicate}
use Rattle.market.specs.declared.Phase.TheVariants.{Open}
use Rattle.market.specs.Limits.{max_securities, position_numbers}
use Rattle.market.specs.Tests.{◌=?◌, all_below}
use Rattle.market.specs.declared.Rules.{Rules}
use Rattle.market.specs.Day.{Day, row, no_security, no_turnover}
use Rattle.market.specs.Codes.{no_codes}
use Rattle.market.specs.Sound.{counts_sound, nominal_sound, rate_sound, row_sound}
use Rattle.market.specs.Answers.{Result, refused, zeros}
use Rattle.market.specs.Questions.{Question, ask, first_no}

-- "Accepted: counts and security table as given, all positions zero, phase open, no orders; codes, Q and T at zero"; the
-- rate as given, the market's account at zero with the positions (T-03)
unfoldable pub opened : Rules → Day
opened r = record {
  rules = r;
  money = replicate position_numbers 0;
  pieces = replicate position_numbers 0;
  waiting = [];
  codes = no_codes;
  phase = Open;
  turnover = replicate max_securities no_turnover;
}

-- "refused, it hands back zeros, which is unsound"
abbrev pub no_rules : Rules
no_rules = record {
  participants = 0;
  currencies = 0;
  securities = 0;
  table = replicate max_securities no_security;
  rate = 0;
}

-- "place of the first wrong one from 1": of n lines from s on; 0 where all are in range
unfoldable pub first_wrong : Rules → ℕ → ℕ → ℕ
first_wrong r zero s = 0
first_wrong r (suc n) s = cond (row_sound r.currencies (row r s)) (first_wrong r n (suc s)) (suc s)

-- that of all lines
abbrev pub wrong_line : Rules → ℕ
wrong_line r = first_wrong r r.securities 0

-- "counts in range? No: 17. Every security's line in range, its currency known? No: 18"; "a rate above 1,000 with 22, after
-- 18" (T-03); "any other nominal with 23, after 18 and before 22" (T-05)
abbrev pub opening_questions : Rules → List Question
opening_questions r =
    ask 17 (counts_sound r.participants r.currencies r.securities) ∷
    ask 18 (wrong_line r =? 0) ∷
    ask 23 (all_below r.securities (λ s. nominal_sound (row r s))) ∷
    ask 22 (rate_sound r.rate) ∷ []

-- the place of a refusal: that of the first wrong line, else 0
abbrev pub place_of : Rules → ℕ → ℕ
place_of r number = cond (number =? 18) (wrong_line r) 0

-- the opened day where the first "no" is 0, else the refusal with that number
abbrev pub opening_by : Rules → ℕ → Result
opening_by r zero = zeros (opened r)
opening_by r (suc number) = refused (opened no_rules) (suc number) (place_of r (suc number))

-- the definition of the opening
unfoldable pub opening : Rules → Result
opening r = opening_by r (first_no (opening_questions r))
