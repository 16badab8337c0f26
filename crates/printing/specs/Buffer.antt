-- What is put into a lent buffer.
use Rattle.std.specs.Prelude.{ℕ, ◌+◌, ◌*◌, ◌≡◌, List, ◌++◌, drop, length, take}

-- bytes are put at place `at`: they end at place r, what stands before and behind them stays, and the buffer keeps its
-- length
pub record Puts (before : List ℕ) (at : ℕ) (bytes : List ℕ) (after : List ℕ) (r : ℕ) : Type 0 where
  pub end : r ≡ at + length bytes
  pub text : take r after ≡ take at before ++ bytes
  pub size : length after ≡ length before
  pub past : drop r after ≡ drop r before

-- what a line of n numbers takes at most: its letter, a comma and 20 digits for each number, its end
abbrev pub line_room : ℕ → ℕ
line_room n = 2 + 21 * n

-- the same with a word of m letters
abbrev pub worded_room : ℕ → ℕ → ℕ
worded_room m n = m + 1 + 21 * n
