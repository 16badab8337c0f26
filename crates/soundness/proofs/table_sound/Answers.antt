-- `soundness::table_sound` meets its contract: all of so many rows.
use Rattle.std.proofs.Common.{◌∙◌, arith}
use Rattle.market.specs.Day.{no_security}
use Rattle.market.specs.Sound.{security_sound}
use Rattle.soundness.proofs.Below.{all_first}
use Rattle.soundness.proofs.table_sound.Goals as goal

pub returns : goal.returns
returns c =
    let a = c.args in
    c.each_row_sound.ensures ∙ all_first (security_sound a.currencies) no_security a.table a.securities (omega arith)
