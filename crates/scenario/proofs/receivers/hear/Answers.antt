use Rattle.std.proofs.Common.{◌+◌, ◌++◌, drop, is_ok, sym, ap, ◌∙◌}
use Rattle.std.proofs.ResultArms.{chosen}
use Rattle.timing.specs.Time.{parameters_of}
use Rattle.scenario.specs.Scenes.{arrivals}
use Rattle.scenario.proofs.Heard.{heard_more, heard_all}
use Rattle.scenario.proofs.receivers.hear.Goals as goal

pub loop-i-preserved : goal.loop-i-preserved
loop-i-preserved c =
    let pushed = chosen _ _ _ _ c.push.ensures.items (ap is_ok c.in_ok-push.was) in
    let p = parameters_of c.args.parameters in
    let l = c.loop-i in
    ap (λ x. x ++ arrivals p c.args.line c.args.interval (l.i + 1 + 1) (drop (l.i + 1) c.args.clocks.now)) pushed ∙ sym (heard_more _ p _ _ _ _ _ _ c.loop-i-test.true c.judge.ensures) ∙ l.invariant

pub returns : goal.returns
returns c = sym (heard_all _ (parameters_of c.args.parameters) c.args.line c.args.interval (c.loop-i.i + 1) c.loop-i.i c.args.clocks.now c.loop-i-test.false) ∙ c.loop-i.invariant
