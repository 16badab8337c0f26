-- Of a sound day: the limit of each order is in range, and an accepted entry leaves the day sound, with few trades.
use Prim.Native.Nat.{ℕ, ◌+◌, ◌≤◌}
use native.Mathlib.Omega.{arith}
use mathlib.Core.Path.{◌≡◌}
use lib.ListN.{length}
use Rattle.market.specs.declared.Ticket.{Ticket}
use Rattle.market.specs.declared.Access.TheVariants.{Member}
use Rattle.market.specs.declared.Order.{Order}
use Rattle.market.specs.declared.Phase.TheVariants.{Open}
use Rattle.market.specs.declared.TimeInForce.TheVariants.{FillOrKill}
use Rattle.market.specs.Limits.{max_price}
use Rattle.market.specs.Day.{Day, row, turnover_at}
use Rattle.market.specs.Needs.{limit_of}
use Rattle.market.specs.Positions.{block_for, release_for}
use Rattle.market.specs.Calls.{entry_of}
use Rattle.market.specs.Matching.{Filled, fill}
use Rattle.market.specs.Questions.{first_no, member_questions, order_questions}
use Rattle.market.specs.Entry.{admitted, entered}
use Rattle.market.proofs.Questions.{all_yes, yes}
use Rattle.market.proofs.Known.{OrderOk}
use Rattle.market.proofs.Phases.{member_open}
use Rattle.market.proofs.Turnovers.{limit_bound}
use Rattle.invariant.specs.Standing.{KindOk, Standing}
use Rattle.invariant.proofs.Flight.{fill_few, fill_flight}
use Rattle.invariant.proofs.Entry.{flight_ends, flight_starts}

-- a kept order's price is in range, and so is the closing price
pub limit_fits : (d : Day) → Standing d → (o : Order) → OrderOk d.rules o → KindOk d o
    → limit_of d.turnover o ≤ max_price
limit_fits d g o ok k =
    limit_bound d.phase (row d.rules o.security) (turnover_at d.turnover o.security) o.kind
    (g.turnovers o.security ok.security) k

-- a member of a group that passed its questions: the day stays sound, and a trade takes a waiting order off or is the
-- entry's last
module _ (d : Day) (p : ℕ) (m : Ticket) (g : Standing d) (e : first_no (member_questions d p m) ≡ 0) where
  abbrev o : Order
  o = entry_of d p m

  abbrev filled : Filled
  filled = fill (admitted d o) o

  is_open : d.phase ≡ Open
  unfolding order_questions
  is_open =
      let qs = member_questions d p m in
      member_open d.phase (yes 6 qs (all_yes qs tt e))

  pub whole_standing : Standing (entered d o FillOrKill).day
  unfolding entered
  whole_standing =
      flight_ends filled.day filled.entry (fill_flight (admitted d o) o (flight_starts d p m Member FillOrKill g is_open e)) FillOrKill
      (λ h. absurd (omega arith))

  pub whole_few : length (entered d o FillOrKill).trades + length (entered d o FillOrKill).day.waiting
      ≤ length d.waiting + 1
  unfolding entered admitted block_for release_for
  whole_few =
      let few = fill_few (admitted d o) o in
      omega (arith, few.count)
