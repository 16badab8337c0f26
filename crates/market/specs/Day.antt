-- The state as far as it is read.
use Rattle.std.specs.Prelude.{ℕ, ◌+◌, ◌*◌, List, get_or}
use Rattle.market.specs.declared.Asset.{Asset}
use Rattle.market.specs.declared.Asset.TheVariants.{Money, Pieces}
use Rattle.market.specs.declared.Kind.TheVariants as kind
use Rattle.market.specs.declared.Order.{Order}
use Rattle.market.specs.declared.Phase.{Phase}
use Rattle.market.specs.declared.Rules.{Rules}
use Rattle.market.specs.declared.Security.{Security}
use Rattle.market.specs.declared.Side.TheVariants.{Buy}
use Rattle.market.specs.declared.Turnover.{Turnover}
use Rattle.market.specs.Limits.{columns, market, money_limit, pieces_limit}

-- what a participant has in a currency or a security
pub record Position : Type 0 where
  pub free : ℕ
  pub blocked : ℕ

-- positions stand two numbers each, free before blocked; waiting orders by rising arrival; codes given, of each participant
pub record Day : Type 0 where
  pub rules : Rules
  pub money : List ℕ
  pub pieces : List ℕ
  pub waiting : List Order
  pub codes : List ℕ
  pub phase : Phase
  pub turnover : List Turnover

-- what stands past a list's end: zeros, and of an enum the first variant
abbrev pub no_security : Security
no_security = record { currency = 0; lot = 0; step = 0; nominal = 0 }

abbrev pub no_turnover : Turnover
no_turnover = record { pieces = 0; value = 0 }

abbrev pub no_order : Order
no_order = record { code = 0; participant = 0; side = Buy; arrival = 0; security = 0; lots = 0; kind = kind.Kept 0 }

-- the first for money, the second for pieces
abbrev pub if_money : {A : Type 0} → Asset → A → A → A
if_money Money a b = a
if_money Pieces a b = b

-- the positions in money, in pieces
abbrev pub positions : Asset → Day → List ℕ
positions x d = if_money x d.money d.pieces

-- money stands in the columns of the currencies, pieces in those of the securities
abbrev pub columns_of : Asset → Rules → ℕ
columns_of x r = if_money x r.currencies r.securities

-- "free plus blocked money over all participants is at most 10^15; a security's pieces, at most 10^12"
abbrev pub total_limit : Asset → ℕ
total_limit x = if_money x money_limit pieces_limit

-- the cell of a participant's position in a currency or a security: participant × 16 + currency or security
abbrev pub cell : ℕ → ℕ → ℕ
cell p column = p * columns + column

-- free stands at twice the cell, blocked behind it
abbrev pub free_at : ℕ → ℕ
free_at j = 2 * j

abbrev pub blocked_at : ℕ → ℕ
blocked_at j = 2 * j + 1

-- the position in a cell
abbrev pub position : List ℕ → ℕ → Position
position l j = record { free = get_or l (free_at j) 0; blocked = get_or l (blocked_at j) 0 }

-- "the market's own account" in a currency (T-03): what is free in its row
abbrev pub account : List ℕ → ℕ → ℕ
account l column = (position l (cell market column)).free

-- what a total counts beside the participants: "A currency's total counts the market's account in" (T-03), a security's
-- nothing
abbrev pub account_in : Asset → List ℕ → ℕ → ℕ
account_in x l column = if_money x (account l column) 0

-- the row of a security
abbrev pub row : Rules → ℕ → Security
row r s = get_or r.table s no_security

-- a security's currency
abbrev pub currency_of : Rules → ℕ → ℕ
currency_of r s = (row r s).currency

-- Q and T of a security
abbrev pub turnover_at : List Turnover → ℕ → Turnover
turnover_at t s = get_or t s no_turnover

-- the waiting order at a place of the list
abbrev pub order_at : List Order → ℕ → Order
order_at w i = get_or w i no_order

-- the order with other lots
abbrev pub with_lots : Order → ℕ → Order
with_lots o n = record {
  code = o.code;
  participant = o.participant;
  side = o.side;
  arrival = o.arrival;
  security = o.security;
  lots = n;
  kind = o.kind;
}

-- the day with one part replaced
abbrev pub with_money : Day → List ℕ → Day
with_money d m = record {
  rules = d.rules;
  money = m;
  pieces = d.pieces;
  waiting = d.waiting;
  codes = d.codes;
  phase = d.phase;
  turnover = d.turnover;
}

abbrev pub with_pieces : Day → List ℕ → Day
with_pieces d m = record {
  rules = d.rules;
  money = d.money;
  pieces = m;
  waiting = d.waiting;
  codes = d.codes;
  phase = d.phase;
  turnover = d.turnover;
}

abbrev pub with_positions : Asset → Day → List ℕ → Day
with_positions x d m = with_pieces (with_money d (if_money x m d.money)) (if_money x d.pieces m)

abbrev pub with_waiting : Day → List Order → Day
with_waiting d w = record {
  rules = d.rules;
  money = d.money;
  pieces = d.pieces;
  waiting = w;
  codes = d.codes;
  phase = d.phase;
  turnover = d.turnover;
}

abbrev pub with_codes : Day → List ℕ → Day
with_codes d l = record {
  rules = d.rules;
  money = d.money;
  pieces = d.pieces;
  waiting = d.waiting;
  codes = l;
  phase = d.phase;
  turnover = d.turnover;
}

abbrev pub with_phase : Day → Phase → Day
with_phase d x = record {
  rules = d.rules;
  money = d.money;
  pieces = d.pieces;
  waiting = d.waiting;
  codes = d.codes;
  phase = x;
  turnover = d.turnover;
}

abbrev pub with_turnover : Day → List Turnover → Day
with_turnover d t = record {
  rules = d.rules;
  money = d.money;
  pieces = d.pieces;
  waiting = d.waiting;
  codes = d.codes;
  phase = d.phase;
  turnover = t;
}
