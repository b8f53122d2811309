use Rattle.std.proofs.Common.{◌∙◌, arith}
use Rattle.std.proofs.lemmas.Result.{on_ok_weaker}
use Rattle.stage.specs.Scenes.{scene_of, judged_by}
use Rattle.stage.proofs.Scened.{there, absent, at_none, judged_one}
use Rattle.stage.proofs.cast.Cast.judge.Goals as goal

pub returns-in_default : goal.returns-in_default
unfolding judged_by
returns-in_default c = at_none c.args.place _ (scene_of c.args.self.now) (absent _ c.deref.result.now c.args.place c.deref.ensures.value (omega (arith, c.in_default.ensures.lookup)))

pub returns : goal.returns
returns c =
    let site = there _ c.deref.result.now c.args.place c.in-Some.r.now c.deref.ensures.value (omega (arith, c.in-Some.ensures.lookup)) c.in-Some.ensures.lookup.1 in
    on_ok_weaker c.note.result (λ e. e ∙ judged_one c.args.line c.args.place c.args.interval _ _ (scene_of c.args.self.now) site c.judge-judgement.ensures) c.note.ensures
