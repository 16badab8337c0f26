-- An order that only waits: it can block its need, there is room for it, and the floor with it holds the definition's day.
use Prim.Native.Nat.{ℕ, ◌+◌, ◌<◌}
use native.Mathlib.Omega.{arith}
use mathlib.Core.Path.{◌≡◌, ap, ◌∙◌}
use mathlib.Core.List.{List, [], ◌∷◌, ◌++◌}
use lib.ListN.{length, set}
use borrow.Author.Tests.{ltb-true}
use Rattle.market.specs.declared.Floor.{Floor}
use Rattle.market.specs.declared.Order.{Order}
use Rattle.market.specs.declared.Rules.{Rules}
use Rattle.market.specs.Limits.{max_participants, max_waiting}
use Rattle.market.specs.Day.{Day, with_codes, with_waiting}
use Rattle.market.specs.View.{day_of}
use Rattle.market.specs.Codes.{codes_of}
use Rattle.market.specs.Positions.{block, block_for}
use Rattle.market.specs.Entry.{admitted, placed}
use Rattle.market.proofs.View.{first_append, first_length}
use Rattle.invariant.specs.Standing.{Placeable, Standing}
use Rattle.invariant.proofs.Whole.{limit_fits}
use Rattle.waiting.specs.Claims.{Blockable, moved}
use Rattle.waiting.proofs.Claims.{blocks, moved_day}

module _ (r : Rules) (f : Floor) (o : Order) (standing : Standing (day_of r f)) (p : Placeable (day_of r f) o) where
  abbrev d : Day
  d = day_of r f

  pub append_participant : o.participant < max_participants
  append_participant = omega (arith, p.order.participant, standing.backed.rules_ok.participants)

  pub append_room : f.count < max_waiting
  append_room = omega (arith, ltb-true (length d.waiting) max_waiting p.room, first_length f.count f.orders)

  pub append_blocks : Blockable d o
  append_blocks =
      blocks d o [] standing.backed p.order.participant p.order.security (limit_fits d standing o p.order p.kind) p.order.top
      p.covers

  pub append_day : f.count < length f.orders
      → day_of r
      (record (moved block r f o) {
        orders = set f.orders f.count o;
        count = f.count + 1;
        codes = set f.codes o.participant o.code;
      })
      ≡ (placed d o).day
  unfolding placed admitted block_for
  append_day inside =
      let w = d.waiting ++ (o ∷ []) in
      ap (λ (v : List Order). with_waiting (with_codes (day_of r (moved block r f o)) (set f.codes o.participant o.code)) v)
      (first_append f.count f.orders o inside)
      ∙ ap (λ (n : ℕ). with_waiting (with_codes (day_of r (moved block r f o)) (set f.codes o.participant n)) w) p.code
      ∙ ap (λ (e : Day). with_waiting (with_codes e (set f.codes o.participant (codes_of d o.participant + 1))) w)
      (moved_day block r f o)
