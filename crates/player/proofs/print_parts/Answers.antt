-- `player::print_parts`: a resumed script has less to do.
use Rattle.script.specs.Playing.{to_go}
use Rattle.player.proofs.print_parts.Goals as goal

pub loop-p-smaller : goal.loop-p-smaller
unfolding to_go
loop-p-smaller g c = c.resume-p.ensures.less
