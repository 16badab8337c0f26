-- Second parts and new days on a lent floor and lent records: what they ask, and what they do.
use Rattle.std.specs.Prelude.{ℕ, ◌≤◌, ◌<◌, ◌≡◌, List, [], ◌∷◌, length}
use Rattle.market.specs.declared.Answer.{Answer}
use Rattle.market.specs.declared.Deal.{Deal}
use Rattle.market.specs.declared.Floor.{Floor}
use Rattle.market.specs.declared.Records.{Records}
use Rattle.market.specs.declared.Rules.{Rules}
use Rattle.market.specs.Limits.{cells, columns, money_limit, position_numbers}
use Rattle.market.specs.Tests.{◌and◌, ◌≤?◌, remove_at}
use Rattle.market.specs.Day.{cell, currency_of, position}
use Rattle.market.specs.Positions.{change, draw, receive, total}
use Rattle.market.specs.Questions.{Question, ask}
use Rattle.market.specs.Deals.{due_day, money_back, pieces_back}
use Rattle.market.specs.Ledger.{first_deals}
use Rattle.market.specs.Acts.{new_day, second_part}
use Rattle.market.specs.LedgerParts.{CarriesAct, ReadyLedger}
use Rattle.dealings.specs.declared.Part.{Part}

-- what a deal's second part moves
abbrev pub part_of : Rules → Deal → Part
part_of r x = record {
  buyer = x.buyer;
  seller = x.seller;
  security = x.security;
  currency = currency_of r x.security;
  due = due_day x;
  pieces = pieces_back r x;
  sum = money_back r x;
}

-- questions 24 and 14
abbrev pub part_questions : Floor → Records → Part → List Question
part_questions f z p =
    ask 24 (p.due ≤? z.date) ∷
    ask 14 (p.pieces ≤? (position f.pieces (cell p.buyer p.security)).free
    and p.sum ≤? (position f.money (cell p.seller p.currency)).free) ∷ []

-- its cells are those of positions
pub record Payable (p : Part) : Type 0 where
  pub buyer : p.buyer < columns
  pub seller : p.seller < columns
  pub security : p.security < columns
  pub currency : p.currency < columns

-- an amount of l can go from one cell to another
pub record Handable (l : List ℕ) (from to amount : ℕ) : Type 0 where
  pub size : length l ≡ position_numbers
  pub from_known : from < cells
  pub to_known : to < cells
  pub covered : amount ≤ (position l from).free
  pub from_total : total (position l from) ≤ money_limit
  pub to_total : total (position l to) ≤ money_limit

-- the second part can be paid
pub record Pays (p : Part) (f : Floor) : Type 0 where
  pub payable : Payable p
  pub money : Handable f.money (cell p.seller p.currency) (cell p.buyer p.currency) p.sum
  pub pieces : Handable f.pieces (cell p.buyer p.security) (cell p.seller p.security) p.pieces

-- and is paid
abbrev pub paid : Part → Floor → Floor
paid p f = record {
  phase = f.phase;
  orders = f.orders;
  count = f.count;
  codes = f.codes;
  turnover = f.turnover;
  money = change (change f.money (cell p.seller p.currency) (draw p.sum)) (cell p.buyer p.currency) (receive p.sum);
  pieces = change (change f.pieces (cell p.buyer p.security) (draw p.pieces)) (cell p.seller p.security) (receive p.pieces);
}

-- the deal at this place is gone from the records
pub record Ends (z : Records) (at : ℕ) (z' : Records) : Type 0 where
  pub date : z'.date ≡ z.date
  pub deals : first_deals z'.count z'.deals ≡ remove_at (first_deals z.count z.deals) at

-- the contract of a second part, which asks for no list and writes none
abbrev pub SecondParts : Rules → Floor → Records → ℕ → Floor → Records → Answer → Type 0
SecondParts r f z place f' z' a = (v : List ℕ) → CarriesAct r f z v (second_part place) f' z' v a

-- that of a new day, which reads no rules
abbrev pub NewDays : Floor → Records → ℕ → Floor → Records → Answer → Type 0
NewDays f z date f' z' a =
    (r : Rules) (v : List ℕ) → ReadyLedger r f z → CarriesAct r f z v (new_day date) f' z' v a
