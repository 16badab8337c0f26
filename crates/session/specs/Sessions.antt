-- The closing session and collecting: their phases and terms, and what their ends ask and do on a lent floor.
use Rattle.std.specs.Prelude.{ℕ, ◌*◌, ◌≤◌, ◌≡◌, List, Bool, true, length}
use Rattle.market.specs.declared.Access.{Access}
use Rattle.market.specs.declared.Access.TheVariants.{EndCollecting, EndSession, StartClosing, StartCollecting}
use Rattle.market.specs.declared.Floor.{Floor}
use Rattle.market.specs.declared.Kind.TheVariants as kind
use Rattle.market.specs.declared.Phase.{Phase}
use Rattle.market.specs.declared.Phase.TheVariants as phase
use Rattle.market.specs.declared.Rules.{Rules}
use Rattle.market.specs.declared.Session.{Session}
use Rattle.market.specs.declared.Session.TheVariants.{Closing, Collecting}
use Rattle.market.specs.Limits.{numbers_per_trade}
use Rattle.market.specs.Tests.{◌=?◌}
use Rattle.market.specs.Day.{Day, turnover_at}
use Rattle.market.specs.View.{day_of, first_orders}
use Rattle.market.specs.Needs.{closing_price}
use Rattle.market.specs.Pairing.{Paired, Terms, pairs_from}
use Rattle.market.specs.Closing.{closing_terms}
use Rattle.market.specs.Auction.{auction_price, auction_terms}
use Rattle.invariant.specs.Standing.{Standing}
use Rattle.pairing.specs.declared.Tally.{Tally}
use Rattle.pairing.specs.Pairing.{PairedAs}

-- question 21 of its start, the phase that it is, what question 6 is asked of at its start and its end, the phase after it
abbrev pub starts_at : Session → ℕ → Bool
starts_at Closing codes = true
starts_at Collecting codes = codes =? 0

abbrev pub phase_of : Session → Phase
phase_of Closing = phase.Closing
phase_of Collecting = phase.Collecting

abbrev pub start_access : Session → Access
start_access Closing = StartClosing
start_access Collecting = StartCollecting

abbrev pub end_access : Session → Access
end_access Closing = EndSession
end_access Collecting = EndCollecting

abbrev pub next_phase : Session → Phase
next_phase Closing = phase.Closed
next_phase Collecting = phase.Open

-- the terms of its pairing, on a day and on a floor
abbrev pub terms_of : Session → Day → ℕ → Terms
terms_of Closing = closing_terms
terms_of Collecting = auction_terms

abbrev pub terms_with : Session → Floor → ℕ → Terms
terms_with Closing f s = record { limit = kind.Closing; price = closing_price (turnover_at f.turnover s) }
terms_with Collecting f s =
    let p = auction_price (first_orders f.count f.orders) s in record { limit = kind.Kept p; price = p }

-- the day is sound in the session's phase, and there is room for a trade with each waiting order
pub record Endable (z : Session) (r : Rules) (f : Floor) (v : List ℕ) : Type 0 where
  pub standing : Standing (day_of r f)
  pub phase : f.phase ≡ phase_of z
  pub lent : numbers_per_trade * f.count ≤ length v

-- the pairing of n securities from s on
abbrev pub paired_from : Session → Rules → (n s : ℕ) → Floor → Paired
paired_from z r n s f = pairs_from (terms_of z) n s (day_of r f)

-- no lots and trades are counted yet
abbrev pub no_tally : Tally
no_tally = record { lots = 0; trades = 0 }

-- the definition's pairing of the session
abbrev pub PairsAll : Session → Rules → Floor → (v : List ℕ) → Floor → (v' : List ℕ) → Tally → Type 0
PairsAll z r f v f' v' c' = PairedAs (paired_from z r r.securities 0 f) r no_tally v f' c' v'
