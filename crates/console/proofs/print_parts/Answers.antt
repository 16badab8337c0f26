-- `console::print_parts`: a resumed run has less to do.
use Rattle.dayfile.specs.Run.{to_go}
use Rattle.console.proofs.print_parts.Goals as goal

pub loop-r-smaller : goal.loop-r-smaller
unfolding to_go
loop-r-smaller g c = c.resume-r.ensures.continues.less
