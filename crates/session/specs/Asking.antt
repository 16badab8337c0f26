-- The questions of a closing order, as they stand on a floor.
use Rattle.std.specs.Prelude.{ℕ, ◌≤◌, ◌<◌, List, [], ◌∷◌, get_or}
use Rattle.market.specs.declared.Floor.{Floor}
use Rattle.market.specs.declared.Kind.TheVariants as kind
use Rattle.market.specs.declared.Order.{Order}
use Rattle.market.specs.declared.Rules.{Rules}
use Rattle.market.specs.declared.Side.{Side}
use Rattle.market.specs.Limits.{max_own_codes, max_price, max_waiting}
use Rattle.market.specs.Tests.{◌<?◌}
use Rattle.market.specs.Day.{turnover_at}
use Rattle.market.specs.View.{day_of}
use Rattle.market.specs.Needs.{closing_price}
use Rattle.market.specs.Sound.{has_traded}
use Rattle.market.specs.Questions.{Question, ask, covered}
use Rattle.market.proofs.Known.{RulesOk}

-- a closing order before it is numbered, as question 14 reads it
abbrev pub closing_claim : ℕ → Side → ℕ → ℕ → Order
closing_claim p side s lots = record {
  code = 0;
  participant = p;
  side = side;
  arrival = 0;
  security = s;
  lots = lots;
  kind = kind.Closing;
}

-- those after the questions that all orders are asked
abbrev pub later_questions : Rules → Floor → Order → List Question
later_questions r f o =
    ask 11 (has_traded (turnover_at f.turnover o.security)) ∷
    ask 12 (f.count <? max_waiting) ∷
    ask 13 (get_or f.codes o.participant 0 <? max_own_codes) ∷
    ask 14 (covered (day_of r f) o) ∷ []

-- these can be asked: the rules are sound, and the closing prices within their limit
pub record Askable (r : Rules) (f : Floor) : Type 0 where
  pub rules : RulesOk r
  pub prices : (s : ℕ) → s < r.securities → closing_price (turnover_at f.turnover s) ≤ max_price
