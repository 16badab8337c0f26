-- `soundness::turnovers_sound` meets its contract: all of so many.
use Rattle.std.proofs.Common.{◌∙◌, arith}
use Rattle.market.specs.Day.{no_turnover}
use Rattle.market.specs.Sound.{turnover_sound}
use Rattle.soundness.proofs.Below.{all_first}
use Rattle.soundness.proofs.turnovers_sound.Goals as goal

pub returns : goal.returns
returns c =
    let a = c.args in
    c.each_turnover_sound.ensures ∙ all_first (turnover_sound a.codes) no_turnover a.turnovers a.securities (omega arith)
