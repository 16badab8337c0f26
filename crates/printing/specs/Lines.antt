-- The lines that the day file program prints, byte by byte.
use Rattle.std.specs.Prelude.{ℕ, zero, suc, ◌+◌, ◌/◌, ◌%◌, List, [], ◌∷◌, ◌++◌, cond, drop, take}
use Rattle.market.specs.declared.Answer.{Answer}
use Rattle.market.specs.Limits.{numbers_per_trade}
use Rattle.market.specs.Tests.{◌<?◌}
use Rattle.market.specs.Day.{Day, Position, cell, position}
use Rattle.market.specs.TradeList.{Trade, numbers}
use Rattle.market.specs.Answers.{numbers_of}

-- the letters of the four kinds of lines, the comma, and the byte that ends a line
abbrev pub letter_a : ℕ
letter_a = 65

abbrev pub letter_t : ℕ
letter_t = 84

abbrev pub letter_m : ℕ
letter_m = 77

abbrev pub letter_q : ℕ
letter_q = 81

abbrev pub comma : ℕ
comma = 44

abbrev pub line_end : ℕ
line_end = 10

-- a number below 10 is one digit; another one, the digits of its tenth and its last; k bounds the digits
unfoldable pub decimal_by : ℕ → ℕ → List ℕ
decimal_by zero n = []
decimal_by (suc k) n = cond (n <? 10) ((48 + n) ∷ []) (decimal_by k (n / 10) ++ ((48 + n % 10) ∷ []))

-- a number in decimal, without leading zeros: 64 bits take at most 20 digits
unfoldable pub decimal : ℕ → List ℕ
decimal n = decimal_by 20 n

-- a comma and a number, one after another
unfoldable pub number_fields : List ℕ → List ℕ
number_fields [] = []
number_fields (n ∷ ns) = comma ∷ (decimal n ++ number_fields ns)

-- a word, numbers, the end of the line
unfoldable pub worded_line : List ℕ → List ℕ → List ℕ
worded_line word ns = word ++ (number_fields ns ++ (line_end ∷ []))

-- a letter, numbers, the end of the line
unfoldable pub printed_line : ℕ → List ℕ → List ℕ
printed_line letter ns = letter ∷ (number_fields ns ++ (line_end ∷ []))

-- `A,line,refusal,place,code,filled,left,trades`
unfoldable pub answer_line : ℕ → Answer → List ℕ
answer_line line a =
    let n = numbers_of a in
    printed_line letter_a
    (line ∷ n.refusal ∷ n.place ∷ n.code ∷ n.filled ∷ n.left ∷ n.trades ∷ [])

-- "then its `T` lines in trade-list order"
unfoldable pub trade_lines : List Trade → List ℕ
trade_lines [] = []
trade_lines (t ∷ ts) = printed_line letter_t (numbers t) ++ trade_lines ts

-- the same lines of the first n trades of a flat list, as the trade list holds them
unfoldable pub flat_lines : ℕ → List ℕ → List ℕ
flat_lines zero l = []
flat_lines (suc n) l = printed_line letter_t (take numbers_per_trade l) ++ flat_lines n (drop numbers_per_trade l)

-- `M,participant,currency,free,blocked`, `Q,participant,security,free,blocked`
unfoldable pub position_line : ℕ → ℕ → ℕ → Position → List ℕ
position_line letter p column x = printed_line letter (p ∷ column ∷ x.free ∷ x.blocked ∷ [])

-- the lines of a participant: n columns from c on
unfoldable pub column_lines : ℕ → List ℕ → ℕ → ℕ → ℕ → List ℕ
column_lines letter l p zero c = []
column_lines letter l p (suc n) c =
    position_line letter p c (position l (cell p c)) ++ column_lines letter l p n (suc c)

-- "by rising participant, then rising second number": n participants from p on, each with all columns
unfoldable pub participant_lines : ℕ → List ℕ → ℕ → ℕ → ℕ → List ℕ
participant_lines letter l columns zero p = []
participant_lines letter l columns (suc n) p =
    column_lines letter l p columns 0 ++ participant_lines letter l columns n (suc p)

-- "After all come the lines M .., then the lines Q .."
unfoldable pub position_lines_of : ℕ → ℕ → ℕ → List ℕ → List ℕ → List ℕ
position_lines_of participants currencies securities money pieces =
    participant_lines letter_m money currencies participants 0
    ++ participant_lines letter_q pieces securities participants 0

-- the position lines of a day
abbrev pub position_lines : Day → List ℕ
position_lines d =
    let r = d.rules in
    position_lines_of r.participants r.currencies r.securities d.money d.pieces
