-- `dayfile::whole_day` meets its contract: the heading, then the commands as far as the buffer has room.
use native.Mathlib.Omega.{arith}
use Rattle.std.proofs.lemmas.Bool.{not-false, not-true}
use Rattle.dayfile.proofs.Whole.{begins_room, begins_then, prints_none, prints_over}
use Rattle.dayfile.proofs.whole_day.Goals as goal

pub returns-then-first : goal.returns-then-first
returns-then-first c = prints_over c.begin-first.ensures c.if-first.true

pub returns-then-out-first : goal.returns-then-out-first
returns-then-out-first c =
    let begins = c.begin-first.ensures in
    prints_none begins c.if-first.false
    (omega (arith, c.if-out-first.true, begins_room begins c.if-first.false, begins.size))

pub returns-then-not-last : goal.returns-then-not-last
returns-then-not-last c =
    let still = not-true _ c.if-not-last.true in
    prints_none (begins_then c.begin-first.ensures c.if-first.false c.resume-last.ensures.continues)
    still (c.resume-last.ensures.full still)

pub returns : goal.returns
returns c =
    prints_over (begins_then c.begin-first.ensures c.if-first.false c.resume-last.ensures.continues)
    (not-false _ c.if-not-last.false)
