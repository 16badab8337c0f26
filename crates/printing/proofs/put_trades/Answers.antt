-- `printing::put_trades`: the next trade's line is put behind those before it.
use native.Mathlib.Omega.{arith}
use Rattle.std.proofs.Common.{◌*◌, [], ◌∷◌, ◌∙◌, ap, sym, length, length-append, length-drop, length-take-le, take}
use Rattle.market.specs.Limits.{numbers_per_trade}
use Rattle.printing.proofs.Runs.{run_ends, run_next, run_room, run_starts, trade_next, trade_run}
use Rattle.printing.proofs.put_trades.Goals as goal

pub loop-trade-init : goal.loop-trade-init
loop-trade-init c =
    let e = c.chunks_exact-trade-items.ensures in
    rw c.into_iter-trade-iterator.ensures.into_iter_gives
    (omega (arith, e.size), tt, e.size, e.rest, run_starts (trade_run _) _ _ _ c.requires.numbers_per_trade_in_bounds_2)

pub put_line-end-requires : goal.put_line-end-requires
put_line-end-requires c =
    let i = c.loop-trade.invariant in
    let s = c.in-Some.ensures.steps in
    let next = trade_next _ _ _ _ _ c.requires.numbers_per_trade_in_bounds (sym i.3 ∙ s.1.0) (s.1.1 ∙ i.2) in
    omega (arith, s.1.1, i.2, run_room (trade_run _) i.4 next.0)

pub loop-trade-preserved : goal.loop-trade-preserved
loop-trade-preserved c =
    let i = c.loop-trade.invariant in
    let s = c.in-Some.ensures.steps in
    let next = trade_next _ _ _ _ _ c.requires.numbers_per_trade_in_bounds (sym i.3 ∙ s.1.0) (s.1.1 ∙ i.2) in
    rw (length-append c.loop-trade.yielded (c.in-Some.trade ∷ []))
    (omega (arith, s.0, i.0), tt, s.0 ∙ i.2, next.2, run_next (trade_run _) i.4 next.0 (rw next.1 at c.put_line-end.ensures))

pub returns : goal.returns
returns c =
    let i = c.loop-trade.invariant in
    let first = c.args.count * numbers_per_trade in
    run_ends (trade_run _) i.4
    (omega (
      arith,
      c.in-None.ensures.steps.1.0,
      i.2,
      ap length i.3,
      length-drop (length c.loop-trade.yielded * numbers_per_trade) (take first c.args.trades.now),
      length-take-le first c.args.trades.now c.requires.numbers_per_trade_in_bounds,
    ))
