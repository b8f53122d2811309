use Rattle.std.proofs.Common.{arith}
use Rattle.script.proofs.Running.{line_done, line_stops, lines_end}
use Rattle.script.proofs.reader.read.Goals as goal

pub returns-in_err-at : goal.returns-in_err-at
returns-in_err-at g c =
    let f = g.F.Follow in
    c.loop-text.invariant.0 _ (rw (c.in-Some.ensures.0) (line_stops f.steps f.ends _ _ _ _ _ _ _ _ _ c.follow.ensures c.at.ensures c.in_err-at.was c.from_residual.ensures.1))

pub loop-text-preserved : goal.loop-text-preserved
loop-text-preserved g c =
    let f = g.F.Follow in
    (λ r m. c.loop-text.invariant.0 r (rw (c.in-Some.ensures.0) (line_done f.steps f.ends _ _ _ _ _ _ _ _ _ c.follow.ensures c.at.ensures c.in_ok-at.was m)), omega (arith, c.loop-text.invariant.1, c.in-Some.ensures.1))

pub returns-in_err-at-2 : goal.returns-in_err-at-2
returns-in_err-at-2 g c =
    let f = g.F.Follow in
    c.loop-text.invariant.0 _ (rw (c.in_default.ensures) (line_stops f.steps f.ends _ _ _ _ _ _ _ _ _ c.follow-2.ensures c.at-2.ensures c.in_err-at-2.was c.from_residual-in_err-at-2.ensures.1))

pub returns : goal.returns
returns g c =
    let f = g.F.Follow in
    c.loop-text.invariant.0 _ (rw (c.in_default.ensures) (line_done f.steps f.ends _ _ _ _ _ _ _ _ _ c.follow-2.ensures c.at-2.ensures c.in_ok-at-2.was (lines_end f.steps f.ends _ _ _ _ c.finish.ensures c.at-3.ensures)))
