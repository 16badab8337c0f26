-- What the reader yields: one command after another.
use Rattle.std.specs.Prelude.{ℕ, zero, suc, ◌<◌, ◌≤◌, ◌≡◌, List, [], ◌∷◌, Bool, true, false, drop, length, set, Some, None, IfSome}
use Rattle.std.specs.declared.option.Option.{Option}
use Rattle.market.specs.declared.Call.{Call}
use Rattle.market.specs.declared.Call.TheVariants as call
use Rattle.market.specs.declared.Ticket.{Ticket}
use Rattle.market.specs.Limits.{max_members, min_members}
use Rattle.market.specs.Calls.{no_tickets}
use Rattle.market.specs.Tests.{within}
use Rattle.lines.specs.declared.Line.{Line}
use Rattle.lines.specs.declared.Line.TheVariants as line
use Rattle.lines.specs.Text.{starting_at, up_to}
use Rattle.lines.specs.Line.{line_says}
use Rattle.reading.specs.declared.Members as code
use Rattle.reading.specs.declared.Reader.{Reader}
use Rattle.reading.specs.declared.Reading.{Reading}
use Rattle.reading.specs.declared.Yielded.{Yielded}

-- the byte that ends a line
abbrev pub line_end : ℕ
line_end = 10

-- all but the first byte
unfoldable pub behind : List ℕ → List ℕ
behind [] = []
behind (x ∷ t) = t

-- "lines ended by byte 10 (the last may lack it)": the first line of a text, and the text after it
unfoldable pub first_line : List ℕ → List ℕ
first_line t = up_to line_end t

unfoldable pub after_line : List ℕ → List ℕ
after_line t = behind (starting_at line_end t)

-- what a first line says, the members of a group, how many lines were taken, and the text after them
pub record Yield : Type 0 where
  pub says : Line
  pub members : List Ticket
  pub lines : ℕ
  pub rest : List ℕ

-- the members' lines: one is missing or malformed, or their places and the text after them
pub data Members : Type 0 where
  missing : Members
  taken : List Ticket → List ℕ → Members

-- a line that has to be a member's
abbrev pub member_by : Line → (Ticket → Members) → Members
member_by (line.Call c) next = missing
member_by (line.Heading a b c) next = missing
member_by (line.Security a b c) next = missing
member_by (line.Member m) next = next m
member_by line.Malformed next = missing

-- n lines `M,side,security,price,lots`, the first of them for place i of ms
unfoldable pub members_from : ℕ → ℕ → List Ticket → List ℕ → Members
members_from zero i ms t = taken ms t
members_from (suc n) i ms [] = missing
members_from (suc n) i ms (x ∷ t) =
    member_by (line_says (first_line (x ∷ t)))
    (λ m. members_from n (suc i) (set ms i m) (after_line (x ∷ t)))

-- members as the code holds them
abbrev pub members_in : List ℕ → Option code.Members → Members
members_in text None = missing
members_in text (Some r) = taken r.list (drop r.next text)

-- a command of one line
abbrev pub single : Line → List ℕ → Yield
single says t = record { says = says; members = no_tickets; lines = 1; rest = t }

-- "a missing or malformed M gives G 19, and reading goes on at the line after G"
abbrev pub group_by : ℕ → ℕ → List ℕ → Members → Yield
group_by p n t missing = single line.Malformed t
group_by p n t (taken ms rest) = record {
  says = line.Call (call.Group p n);
  members = ms;
  lines = suc n;
  rest = rest;
}

-- "G with n outside 2 to 8 answers 3 and takes no lines"
abbrev pub group_in : Bool → ℕ → ℕ → List ℕ → Yield
group_in true p n t = group_by p n t (members_from n 0 no_tickets t)
group_in false p n t = single (line.Call (call.Group p n)) t

-- whether a call is a group: its participant and number of members
pub data Group : Type 0 where
  of_group : ℕ → ℕ → Group
  no_group : Group

abbrev pub group_of : Call → Group
group_of (call.Reserve move) = no_group
group_of (call.Order p m k) = no_group
group_of (call.Cancel p code) = no_group
group_of (call.Group p n) = of_group p n
group_of (call.Start z) = no_group
group_of (call.ClosingOrder p side s lots) = no_group
group_of (call.End z) = no_group

-- a call, and a group's members' lines
abbrev pub call_by : Call → Group → List ℕ → Yield
call_by c (of_group p n) t = group_in (within min_members max_members n) p n t
call_by c no_group t = single (line.Call c) t

-- the lines that a first line takes with it: those of a group's members
abbrev pub yield_by : Line → List ℕ → Yield
yield_by (line.Call c) t = call_by c (group_of c) t
yield_by (line.Heading a b c) t = single (line.Heading a b c) t
yield_by (line.Security a b c) t = single (line.Security a b c) t
yield_by (line.Member m) t = single (line.Member m) t
yield_by line.Malformed t = single line.Malformed t

-- the first command of a text
unfoldable pub yield : List ℕ → Yield
yield t = yield_by (line_says (first_line t)) (after_line t)

-- a first line, and the place where the text goes on after it
pub record ReadsLine (text : List ℕ) (at : ℕ) (says : Line) (next : ℕ) : Type 0 where
  pub said : says ≡ line_says (first_line (drop at text))
  pub rest : drop next text ≡ after_line (drop at text)
  pub inside : next ≤ length text
  pub forward : at < length text → at < next

-- n members' lines from `from` on: where they are there, the text goes on inside it, not before `from`
pub record ReadsMembers (text : List ℕ) (from n : ℕ) (r : Option code.Members) : Type 0 where
  pub members : members_in text r ≡ members_from n 0 no_tickets (drop from text)
  pub inside : IfSome r (λ m. m.next ≤ length text)
  pub forward : IfSome r (λ m. from ≤ m.next)

-- r is a command with what it took, and the text goes on inside it, not before `from`
pub record Yields (text : List ℕ) (from : ℕ) (y : Yield) (r : Reading) : Type 0 where
  pub says : r.says ≡ y.says
  pub members : r.members ≡ y.members
  pub lines : r.lines ≡ y.lines
  pub rest : drop r.next text ≡ y.rest
  pub inside : r.next ≤ length text
  pub forward : from ≤ r.next

-- r is the first command of the text from `at` on
pub record Reads (text : List ℕ) (at : ℕ) (r : Reading) : Type 0 where
  pub says : r.says ≡ (yield (drop at text)).says
  pub members : r.members ≡ (yield (drop at text)).members
  pub lines : r.lines ≡ (yield (drop at text)).lines
  pub rest : drop r.next text ≡ (yield (drop at text)).rest
  -- the reader goes forward, and not past the text's end
  pub forward : at < length text → (at < r.next) × (r.next ≤ length text)

-- y is what a reader yields: the first command from its place on, and the reader of the same text after that command
pub record Next (r : Reader) (y : Yielded) : Type 0 where
  pub reads : Reads r.text.now r.at y.reading
  pub text : y.reader.text ≡ r.text
  pub at : y.reader.at ≡ y.reading.next

-- the first n commands of a text: each begins where the one before it ended, and after the last there are no more
unfoldable pub first_commands : ℕ → List ℕ → List Yield
first_commands zero t = []
first_commands (suc n) [] = []
first_commands (suc n) (x ∷ t) = yield (x ∷ t) ∷ first_commands n (yield (x ∷ t)).rest

-- the text from a reader's place on
abbrev pub left : Reader → List ℕ
left r = drop r.at r.text.now

-- ys are yielded in turn while text is left: the first by r, each other by the reader that was yielded before it
abbrev pub InTurn : Reader → List Yielded → Type 0
InTurn r [] = Unit {0}
InTurn r (y ∷ ys) = (0 < length (left r)) × Next r y × InTurn y.reader ys

-- what was yielded, as a command with the text after it
abbrev pub answered : Yielded → Yield
answered y = record {
  says = y.reading.says;
  members = y.reading.members;
  lines = y.reading.lines;
  rest = left y.reader;
}
