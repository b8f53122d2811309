use Rattle.std.proofs.Common.{◌+◌, ap, ◌∙◌, arith}
use Rattle.std.proofs.lemmas.Result.{on_ok_weaker}
use Rattle.stage.specs.declared.event.Deed.TheVariants.{Said}
use Rattle.stage.specs.Scenes.{scene_of, noted}
use Rattle.stage.proofs.Scened.{said_not, said_so, count_within, air_counted, messages_counted}
use Rattle.stage.proofs.cast.Cast.say.Goals as goal

pub slice_bounds-memory-end : goal.slice_bounds-memory-end
slice_bounds-memory-end c = omega (arith, count_within _ _ _ _ c.in-Ok.ensures.answer c.in-Ok.ensures.memory, c.say.array_long)

pub returns-in-Err : goal.returns-in-Err
returns-in-Err c = on_ok_weaker c.note.result (λ e. e ∙ said_not _ _ (scene_of c.args.self.now) _ c.in-Err.e c.in-Err.ensures.after c.in-Err.ensures.answer) c.note.ensures

pub returns : goal.returns
returns c =
    let v = scene_of c.send.new.self in
    on_ok_weaker c.note-2.result
    (λ e. e ∙ ap (λ k. noted c.args.line (Said (c.len.result + 1) k) v) (c.len-message.ensures ∙ messages_counted c.send.new.self.said)
    ∙ said_so _ _ c.in-Ok.count _ _ _ (scene_of c.args.self.now) v _ c.in-Ok.ensures.after c.in-Ok.ensures.answer c.in-Ok.ensures.memory (c.len.ensures ∙ air_counted c.args.self.now.air) c.in_ok-send.ensures)
    c.note-2.ensures
