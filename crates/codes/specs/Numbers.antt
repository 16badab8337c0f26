-- How an order is numbered, on the counts of codes alone.
use Rattle.std.specs.Prelude.{ℕ, ◌+◌, ◌≤◌, ◌<◌, List, get_or}
use Rattle.market.specs.declared.Order.{Order}
use Rattle.market.specs.Limits.{max_participants}
use Rattle.market.specs.Tests.{sum_below}
use Rattle.market.proofs.Codes.{CodesWithin}

-- all codes given to n participants
abbrev pub given_in : ℕ → List ℕ → ℕ
given_in n codes = sum_below n (λ p. get_or codes p 0)

-- the order under the next numbers
abbrev pub numbered_with : ℕ → List ℕ → Order → Order
numbered_with n codes o = record {
  code = get_or codes o.participant 0 + 1;
  participant = o.participant;
  side = o.side;
  arrival = given_in n codes + 1;
  security = o.security;
  lots = o.lots;
  kind = o.kind;
}

-- the codes given to n participants leave a next one to p, who is known
pub record Numberable (n : ℕ) (given : List ℕ) (p : ℕ) : Type 0 where
  pub few : n ≤ max_participants
  pub codes : CodesWithin n given
  pub participant : p < n
