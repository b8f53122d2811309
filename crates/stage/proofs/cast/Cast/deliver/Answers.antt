use Rattle.std.proofs.Common.{ap, ◌∙◌}
use Rattle.buffer.specs.Buffers.{as_said, messages_in, saids_in}
use Rattle.stage.specs.Scenes.{scene_of}
use Rattle.stage.proofs.Scened.{saids_more, unsaid_one}
use Rattle.stage.proofs.cast.Cast.deliver.Goals as goal

pub returns-in_ok-push : goal.returns-in_ok-push
returns-in_ok-push c =
    let all = c.note.new.self.unsaid.items in
    unsaid_one _ _ (as_said c.args.m.now) (scene_of c.args.self.now) (scene_of c.note.new.self) c.which_said-message.result _ (cc) c.if-is_none.ensures c.in_ok-note.ensures
    (ap (λ ms. saids_in (messages_in ms)) c.in_ok-push.ensures.items ∙ saids_more all c.args.m.now)
