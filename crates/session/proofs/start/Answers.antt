-- `session::start` meets its contract: questions 6 and 21, then all orders leave and the phase is the session's.
use mathlib.Core.Path.{ap, ◌∙◌}
use Rattle.session.specs.Sessions.{starts_at}
use Rattle.amounts.proofs.Answers.{fails, holds}
use Rattle.invariant.proofs.Sound.{ready_standing}
use Rattle.session.proofs.Calling.{start_late, start_refused, started, summable}
use Rattle.session.proofs.start.Goals as goal

pub returns-then-not-admits_start : goal.returns-then-not-admits_start
returns-then-not-admits_start c =
    rw c.from.ensures
    (start_refused c.requires c.args.session (fails c.admits_start.ensures c.if-not-admits_start.true))

pub given-requires : goal.given-requires
given-requires c = summable c.requires

pub returns-then-not-starts_at : goal.returns-then-not-starts_at
returns-then-not-starts_at c =
    rw c.from-then-not-starts_at.ensures
    (start_late c.requires c.args.session (holds c.admits_start.ensures c.if-not-admits_start.false)
    (fails (c.starts_at.ensures ∙ ap (starts_at c.args.session) c.given.ensures) c.if-not-starts_at.true))

pub free_all-requires : goal.free_all-requires
free_all-requires c = ready_standing c.requires

pub returns : goal.returns
returns c =
    rw c.phase_of-floor.ensures
    (started c.requires c.args.session (holds c.admits_start.ensures c.if-not-admits_start.false)
    (holds (c.starts_at.ensures ∙ ap (starts_at c.args.session) c.given.ensures) c.if-not-starts_at.false) c.free_all.ensures.day)
