-- Less is to do after a part of a script.
use Rattle.std.proofs.Common.{◌≡◌, ℕ, ◌<◌, ◌≤◌, true, false, List, length, arith}
use Rattle.script.specs.declared.Play.{Play}
use Rattle.script.specs.Playing.{to_go}

module _ (text : List ℕ) (p r : Play) (goes : p.over ≡ false) where
  pub further : r.over ≡ false → p.at < r.at → r.at ≤ length text → to_go text r < to_go text p
  unfolding to_go
  further still h inside = rw (goes, still) (omega arith)

  pub finished : r.over ≡ true → to_go text r < to_go text p
  unfolding to_go
  finished done = rw (goes, done) (omega arith)
