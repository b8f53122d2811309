use Rattle.std.proofs.Common.{sym, ap}
use Rattle.stage.specs.Scenes.{scene_of, delivered_all}
use Rattle.stage.proofs.Scened.{saids_none, more_delivered}
use Rattle.stage.proofs.cast.Cast.deliver_all.Goals as goal

pub loop-m-init : goal.loop-m-init
loop-m-init c = ap (λ ds. delivered_all c.args.line c.args.receiver ds (scene_of c.args.self.now)) (sym saids_none)

pub loop-m-preserved : goal.loop-m-preserved
loop-m-preserved c = more_delivered _ _ c.loop-m.m-index _ c.m-item.result _ _ _ c.loop-m-test.true c.m-item.is c.loop-m.invariant c.in_ok-deliver.ensures
