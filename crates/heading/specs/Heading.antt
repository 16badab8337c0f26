-- The heading of a day file: an `H` line, and as many `S` lines as it says.
use Rattle.std.specs.Prelude.{ℕ, zero, suc, ◌+◌, ◌≤◌, ◌<◌, ◌≡◌, List, [], ◌∷◌, true, drop, length, replicate, set, Result, Ok, Err, IfOk}
use Rattle.market.specs.declared.Answer.{Answer}
use Rattle.market.specs.declared.Answer.TheVariants.{Refused}
use Rattle.market.specs.declared.Security.{Security}
use Rattle.market.specs.Limits.{max_securities}
use Rattle.market.specs.Day.{Day, no_security}
use Rattle.market.specs.View.{view}
use Rattle.market.specs.Sound.{sound}
use Rattle.market.specs.Answers.{is_done, numbers_of}
use Rattle.market.specs.Opening.{no_rules, opened, opening}
use Rattle.lines.specs.declared.Line.{Line}
use Rattle.lines.specs.declared.Line.TheVariants as line
use Rattle.reading.specs.Commands.{yield}
use Rattle.heading.specs.declared.Headed as code
use Rattle.heading.specs.declared.Securities.{Securities}

-- the longest text that is read: "A text over 65,536 bytes answers 20"
abbrev pub max_text : ℕ
max_text = 65536

-- the number of a malformed line, or of one out of its place
abbrev pub malformed : ℕ
malformed = 19

-- what a heading comes to: the line that answers, its answer, and where it is accepted the day, the text after it, and
-- the number of that text's first line
pub record Headed : Type 0 where
  pub line : ℕ
  pub answer : Answer
  pub day : Day
  pub rest : List ℕ
  pub next : ℕ

-- "its first fault, on its own line, ends the output"
abbrev pub fault : ℕ → Headed
fault n = record { line = n; answer = Refused malformed 0; day = opened no_rules; rest = []; next = 0 }

-- the `S` lines: the line of a first fault, or the securities in 16 places and the text after them
pub data Lines : Type 0 where
  wrong : ℕ → Lines
  read : List Security → List ℕ → Lines

-- a line that has to be a security's, or the first fault on line n; it has no nominal (T-05)
abbrev pub security_by : Line → ℕ → (Security → Lines) → Lines
security_by (line.Call c) n next = wrong n
security_by (line.Heading a b c) n next = wrong n
security_by (line.Security currency lot step) n next =
    next (record { currency = currency; lot = lot; step = step; nominal = 0 })
security_by (line.Member m) n next = wrong n
security_by line.Malformed n next = wrong n

-- n `S` lines, the first of them for place i of a table; "a missing line counts as malformed, its number one past the
-- last line's". More than 16 keep their form, and 17 refuses them
unfoldable pub securities_from : ℕ → ℕ → List Security → List ℕ → Lines
securities_from zero i table t = read table t
securities_from (suc n) i table [] = wrong (i + 2)
securities_from (suc n) i table (x ∷ t) =
    security_by (yield (x ∷ t)).says (i + 2)
    (λ s. securities_from n (suc i) (set table i s) (yield (x ∷ t)).rest)

abbrev pub no_table : List Security
no_table = replicate max_securities no_security

-- "forms come first, then 17, then 18", 17 "on line 1", 18 on the line of its place; a day file has no rate, which counts
-- as 0 (T-03)
abbrev pub opened_by : ℕ → ℕ → ℕ → Lines → Headed
opened_by p c s (wrong n) = fault n
opened_by p c s (read table t) =
    let r = opening (record { participants = p; currencies = c; securities = s; table = table; rate = 0 }) in
    record { line = suc (numbers_of r.answer).place; answer = r.answer; day = r.day; rest = t; next = s + 2 }

-- the first line has to be an `H`
abbrev pub headed_by : Line → List ℕ → Headed
headed_by (line.Call c) t = fault 1
headed_by (line.Heading p c s) t = opened_by p c s (securities_from s 0 no_table t)
headed_by (line.Security a b c) t = fault 1
headed_by (line.Member m) t = fault 1
headed_by line.Malformed t = fault 1

unfoldable pub heading : List ℕ → Headed
heading t = headed_by (yield t).says (yield t).rest

-- the `S` lines as the code holds them: the securities and the place of the text after them, or the line of the first fault
abbrev pub lines_in : List ℕ → Result Securities ℕ → Lines
lines_in text (Ok r) = read r.table (drop r.next text)
lines_in text (Err n) = wrong n

-- n `S` lines from `from` on
pub record ReadsSecurities (text : List ℕ) (from n : ℕ) (r : Result Securities ℕ) : Type 0 where
  pub lines : lines_in text r ≡ securities_from n 0 no_table (drop from text)
  pub few : IfOk r (λ s. n ≤ length text)
  pub inside : IfOk r (λ s. 0 < n → s.next ≤ length text)

-- a heading with a fault on line n
pub record WrongHeading (n : ℕ) (r : code.Headed) : Type 0 where
  pub line : r.line ≡ n
  pub answer : r.outcome.answer ≡ Refused malformed 0
  pub day : view r.outcome.state ≡ opened no_rules

-- this heading h of a text
pub record ReadsAs (h : Headed) (text : List ℕ) (r : code.Headed) : Type 0 where
  pub line : r.line ≡ h.line
  pub answer : r.outcome.answer ≡ h.answer
  pub day : view r.outcome.state ≡ h.day
  pub rest : is_done r.outcome.answer ≡ true → drop r.at text ≡ h.rest
  pub next : is_done r.outcome.answer ≡ true → r.next ≡ h.next
  pub inside : is_done r.outcome.answer ≡ true → r.at ≤ length text
  pub sound : is_done r.outcome.answer ≡ true → sound (view r.outcome.state) ≡ true
  pub few : is_done r.outcome.answer ≡ true → r.next ≤ 18

-- the heading of a text
abbrev pub ReadsHeading : List ℕ → code.Headed → Type 0
ReadsHeading text r = ReadsAs (heading text) text r

-- the heading whose `H` says this, with its `S` lines from `from` on
abbrev pub ReadsLines : (text : List ℕ) → (from p c s : ℕ) → code.Headed → Type 0
ReadsLines text from p c s r = ReadsAs (opened_by p c s (securities_from s 0 no_table (drop from text))) text r
