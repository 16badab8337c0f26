-- `script::resume` meets its contract. The loop's invariant: where the buffer has no more room, a command was carried out.
use Rattle.std.proofs.Common.{refl, arith, rules}
use Rattle.script.proofs.Progress.{finished, further}
use Rattle.script.proofs.resume.Goals as goal

pub returns-then-last_start-p : goal.returns-then-last_start-p
returns-then-last_start-p c =
    let i = c.loop-p.invariant in
    let goes = c.requires.goes in
    let moved = i.7 (omega arith) in
    record {
      size = search rules;
      lent = i.3;
      filled = i.5;
      less = further _ _ _ goes i.4 moved.0 moved.1;
    }

pub returns : goal.returns
returns c =
    let i = c.loop-p.invariant in
    let e = c.put_end.ensures in
    let goes = c.requires.goes in
    record {
      size = search rules;
      lent = i.3;
      filled = omega arith;
      less = finished _ _ _ goes refl;
    }
