use Rattle.std.proofs.Common.{Ok, length, sym, ap, ◌∙◌}
use Rattle.std.proofs.lemmas.Result.{on_ok_weaker}
use Rattle.stage.specs.Scenes.{Scene, scene_of, on_air}
use Rattle.stage.proofs.Scened.{passed_back, passed_on, passed_key, air_counted}
use Rattle.stage.proofs.cast.Cast.pass.Goals as goal

pub returns-in_default : goal.returns-in_default
returns-in_default c = passed_back _ _ (scene_of c.args.self.now) _ _ c.in_default.ensures.after c.in_default.ensures.told

pub returns-in_default-sent : goal.returns-in_default-sent
returns-in_default-sent c = c.in_ok-note.ensures ∙ passed_on _ _ (scene_of c.args.self.now) _ c.in-Ok.ensures.after (sym (ap Ok c.in_default-sent.is) ∙ c.in-Ok.ensures.told)

pub returns : goal.returns
returns c =
    on_ok_weaker c.note-2.result
    (λ e. e ∙ passed_key _ _ _ (scene_of c.args.self.now) (scene_of c.send.new.self) _ c.in-Some.key c.in-Ok.ensures.after (sym (ap Ok c.in-Some.is) ∙ c.in-Ok.ensures.told)
    (c.len.ensures ∙ air_counted c.note.new.self.air ∙ ap (λ (x : Scene). length x.air) c.in_ok-note.ensures) (c.in_ok-send.ensures ∙ ap (on_air c.in-Some.key) c.in_ok-note.ensures))
    c.note-2.ensures
