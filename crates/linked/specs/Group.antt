-- What the members of a group are taken from: a sound floor, with the group's own questions answered "yes".
use Rattle.std.specs.Prelude.{ℕ, ◌≤◌, ◌≡◌, List, true, length}
use Rattle.market.specs.declared.Floor.{Floor}
use Rattle.market.specs.declared.Rules.{Rules}
use Rattle.market.specs.Limits.{lent_at_least, max_members, min_members}
use Rattle.market.specs.Tests.{within}
use Rattle.market.specs.Parts.{Ready}

pub record Groupable (r : Rules) (f : Floor) (count : ℕ) (v : List ℕ) : Type 0 where
  pub ready : Ready r f
  pub lent : lent_at_least ≤ length v
  pub few : within min_members max_members count ≡ true
