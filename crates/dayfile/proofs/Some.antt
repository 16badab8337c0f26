-- Something is printed: for every text, and from every sound day on.
use Prim.Native.Nat.{ℕ, zero, suc, ◌<◌}
use native.Mathlib.Omega.{arith}
use mathlib.Core.Path.{◌≡◌}
use mathlib.Core.List.{List, [], ◌∷◌}
use mathlib.Core.Bool.{Bool, true, false, cond}
use lib.ListN.{drop, length, length-append}
use Rattle.market.specs.declared.Answer.TheVariants.{Refused}
use Rattle.market.specs.Limits.{max_currencies, max_participants}
use Rattle.market.specs.Tests.{◌<?◌}
use Rattle.market.specs.Day.{Day}
use Rattle.market.specs.View.{view}
use Rattle.market.specs.Sound.{counts_sound, rules_sound, sound}
use Rattle.market.proofs.Logic.{and_true, within_low}
use Rattle.printing.specs.Lines.{answer_line, column_lines, participant_lines, position_line, position_lines_of, printed_line}
use Rattle.heading.specs.Heading.{heading, max_text}
use Rattle.commands.specs.Output.{command_lines, joined, outputs_by, outputs_from}
use Rattle.dayfile.specs.declared.Run.{Run}
use Rattle.dayfile.specs.Output.{after_heading, outputs, printed, too_long}
use Rattle.dayfile.specs.Run.{Going, left}

pub printed_some : (t : List ℕ) → 0 < length (printed t)
unfolding outputs answer_line printed_line
printed_some t = go (max_text <? length t)
  where
    go : (k : Bool) → 0 < length (joined (cond k (answer_line 0 (Refused too_long 0) ∷ []) (after_heading (heading t))))
    go true = omega arith
    go false = omega arith

positions_some : (p c s : ℕ) (m k : List ℕ) → 0 < p → 0 < c → 0 < length (position_lines_of p c s m k)
unfolding position_lines_of participant_lines column_lines position_line printed_line
positions_some zero c s m k hp hc = absurd (omega arith)
positions_some (suc p) zero s m k hp hc = absurd (omega arith)
positions_some (suc p) (suc c) s m k hp hc = omega arith

outputs_some : (d : Day) (line : ℕ) (t : List ℕ) → sound d ≡ true → 0 < length (joined (outputs_from d line t))
unfolding outputs_from outputs_by command_lines answer_line printed_line sound rules_sound counts_sound
outputs_some d line [] e =
    let counts = and_true (and_true (and_true e).0).0 in
    let r = d.rules in
    let some =
    positions_some r.participants r.currencies r.securities d.money d.pieces
    (within_low 1 max_participants r.participants counts.0)
    (within_low 1 max_currencies r.currencies (and_true counts.1).0) in
    let two = length-append (position_lines_of r.participants r.currencies r.securities d.money d.pieces) [] in
    omega (arith, some, two)
outputs_some d line (x ∷ t) e = omega arith

pub left_some : (text : List ℕ) (r : Run) → r.over ≡ false → Going text r → 0 < length (joined (left text r))
unfolding left
left_some text r e g = rw e (outputs_some (view r.state) r.line (drop r.at text) g.sound)
