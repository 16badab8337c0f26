-- How a script goes on. What is promised is safety and an end: places stay inside text and buffer, and each command takes at
-- least a byte of the text.
use Rattle.std.specs.Prelude.{◌≡◌, ℕ, suc, ◌+◌, ◌-◌, ◌<◌, ◌≤◌, Bool, true, false, List, length}
use Rattle.script.specs.declared.Play.{Play}
use Rattle.script.specs.Rooms.{room}

-- the most numbers that are lent
abbrev pub max_lent : ℕ
max_lent = 4096

-- there is room for a command
pub record Stands (p : Play) (out : List ℕ) : Type 0 where
  pub lent : p.lent ≤ max_lent
  pub enough : p.filled + room ≤ length out
  pub goes : p.over ≡ false

-- after a command that put at most n bytes, with the text going on at `next`
pub record Follows (n : ℕ) (p : Play) (next : ℕ) (before : List ℕ) (r : Play) (after : List ℕ) : Type 0 where
  pub size : length after ≡ length before
  pub at : r.at ≡ next
  pub lent : r.lent ≤ max_lent
  pub filled : r.filled ≤ p.filled + n
  pub goes : r.over ≡ false

-- after the command at its place
pub record Advances (text : List ℕ) (p : Play) (before : List ℕ) (r : Play) (after : List ℕ) : Type 0 where
  pub size : length after ≡ length before
  pub forward : p.at < r.at
  pub inside : r.at ≤ length text
  pub lent : r.lent ≤ max_lent
  pub filled : r.filled ≤ p.filled + room
  pub goes : r.over ≡ false

-- how much there is still to do, if n bytes are ahead
abbrev pub to_go_by : Bool → ℕ → ℕ
to_go_by true n = 0
to_go_by false n = suc n

unfoldable pub to_go : List ℕ → Play → ℕ
to_go text p = to_go_by p.over (length text - p.at)

-- a play as far as the buffer has room: less is to do
pub record Plays (text : List ℕ) (p : Play) (before : List ℕ) (r : Play) (after : List ℕ) : Type 0 where
  pub size : length after ≡ length before
  pub lent : r.lent ≤ max_lent
  pub filled : r.filled ≤ length after
  pub less : to_go text r < to_go text p

-- the beginning
pub record Starts (before : List ℕ) (r : Play) (after : List ℕ) : Type 0 where
  pub size : length after ≡ length before
  pub lent : r.lent ≤ max_lent
  pub filled : r.filled ≤ length after
