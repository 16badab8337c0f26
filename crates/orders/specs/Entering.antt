-- The entry of an order on a lent floor: its questions, what it asks, and what it does.
use Rattle.std.specs.Prelude.{ℕ, ◌*◌, ◌≤◌, ◌<◌, ◌≡◌, List, [], ◌∷◌, Bool, true, get_or, length}
use Rattle.market.specs.declared.Access.{Access}
use Rattle.market.specs.declared.Access.TheVariants.{Member}
use Rattle.market.specs.declared.Answer.{Answer}
use Rattle.market.specs.declared.Floor.{Floor}
use Rattle.market.specs.declared.Kind.TheVariants as kind
use Rattle.market.specs.declared.Order.{Order}
use Rattle.market.specs.declared.Phase.TheVariants.{Open}
use Rattle.market.specs.declared.Rules.{Rules}
use Rattle.market.specs.declared.Ticket.{Ticket}
use Rattle.market.specs.declared.TimeInForce.{TimeInForce}
use Rattle.market.specs.declared.TimeInForce.TheVariants.{FillOrKill, ImmediateOrCancel, Kept}
use Rattle.market.specs.Limits.{max_lots, max_own_codes, max_waiting, numbers_per_trade}
use Rattle.market.specs.Tests.{◌<?◌, ◌≤?◌, known}
use Rattle.market.specs.Day.{Day, row}
use Rattle.market.specs.View.{day_of}
use Rattle.market.specs.Sound.{lots_sound, price_sound}
use Rattle.market.specs.TradeList.{written}
use Rattle.market.specs.Answers.{Result}
use Rattle.market.specs.Calls.{entry_of}
use Rattle.market.specs.Matching.{fitting}
use Rattle.market.specs.Questions.{Question, ask, covered, first_no, order_questions}
use Rattle.market.specs.Entry.{entered}
use Rattle.market.proofs.Known.{RulesOk}
use Rattle.invariant.specs.Standing.{Standing}

-- the first "no" of an order's questions from 4 on, and of a member's; a is the call that question 6 is asked of
abbrev pub order_no : Day → ℕ → Ticket → Access → TimeInForce → ℕ
order_no d p m a k = first_no (order_questions d p m a k)

abbrev pub member_no : Day → ℕ → Ticket → ℕ
member_no d p m = order_no d p m Member FillOrKill

-- the order before it is numbered
abbrev pub claim_with : ℕ → Ticket → Order
claim_with p m = record {
  code = 0;
  participant = p;
  side = m.side;
  arrival = 0;
  security = m.security;
  lots = m.lots;
  kind = kind.Kept m.price;
}

-- questions 12 and 15 on numbers and orders
abbrev pub room_with : TimeInForce → ℕ → Bool
room_with Kept n = n <? max_waiting
room_with ImmediateOrCancel n = true
room_with FillOrKill n = true

abbrev pub fillable_in : TimeInForce → List Order → Order → Bool
fillable_in Kept w e = true
fillable_in ImmediateOrCancel w e = true
fillable_in FillOrKill w e = e.lots ≤? fitting e w

-- the questions that ask for no row of the table, where the phase admits the call or not: s is the security, n the lots
abbrev pub open_questions : Rules → Bool → ℕ → ℕ → ℕ → List Question
open_questions r admitted p s n =
    ask 4 (known p r.participants) ∷
    ask 5 (known s r.securities) ∷
    ask 6 admitted ∷
    ask 7 (lots_sound n) ∷ []

-- the others of an order or a member that read no waiting order, as they stand on a floor
abbrev pub later_questions : Rules → Floor → ℕ → Ticket → TimeInForce → List Question
later_questions r f p m k =
    ask 8 (price_sound (row r m.security) m.price) ∷
    ask 12 (room_with k f.count) ∷
    ask 13 (get_or f.codes p 0 <? max_own_codes) ∷
    ask 14 (covered (day_of r f) (claim_with p m)) ∷ []

-- these can be asked
pub record Askable (d : Day) (p : ℕ) (m : Ticket) : Type 0 where
  pub rules : RulesOk d.rules
  pub participant : p < d.rules.participants
  pub security : m.security < d.rules.securities
  pub top : m.lots ≤ max_lots

-- the phase is open, the day is sound, and e is an order that passed its questions; there is room for a trade with each waiting
-- order
pub record Enterable (r : Rules) (f : Floor) (e : Order) (k : TimeInForce) (v : List ℕ) : Type 0 where
  pub opens : f.phase ≡ Open
  pub standing : Standing (day_of r f)
  pub participant : ℕ
  pub member : Ticket
  pub access : Access
  pub entry : e ≡ entry_of (day_of r f) participant member
  pub asked : order_no (day_of r f) participant member access k ≡ 0
  pub lent : numbers_per_trade * f.count ≤ length v

-- answer, day and lent list are those of a result x
pub record EntersAs (x : Result) (r : Rules) (v : List ℕ) (f' : Floor) (v' : List ℕ) (a : Answer) : Type 0 where
  pub answer : a ≡ x.answer
  pub day : day_of r f' ≡ x.day
  pub list : v' ≡ written x.trades v

abbrev pub Enters : Rules → Floor → Order → TimeInForce → (v : List ℕ) → Floor → (v' : List ℕ) → Answer → Type 0
Enters r f e k v f' v' a = EntersAs (entered (day_of r f) e k) r v f' v' a
