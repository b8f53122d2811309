use Rattle.std.proofs.Common.{◌<◌, length, refl, ap, ◌∙◌, arith}
use Rattle.std.proofs.lemmas.Result.{on_ok_weaker}
use Rattle.receiver.specs.Calls.{own_clock, state_after}
use Rattle.receiver.specs.State.{params_of, state_of}
use Rattle.wire.specs.Formats.{tick_encoded}
use Rattle.stage.specs.Scenes.{scene_of, clock_told}
use Rattle.stage.proofs.Scened.{there, absent, at_none, handed, told_one}
use Rattle.stage.proofs.cast.Cast.tell.Goals as goal

pub returns-in_default : goal.returns-in_default
unfolding clock_told
returns-in_default c =
    let rs = c.args.self.now.receivers in
    at_none c.args.place _ (scene_of c.args.self.now) (absent _ rs.items c.args.place refl (grind (arith, rs.ok.0, c.in_default.ensures.variant.1)))

pub returns : goal.returns
returns c =
    let rs = c.args.self.now.receivers in
    let r = c.in-Some.told.now in
    let within : c.args.place < length rs.items = omega (arith, rs.ok.0, c.in-Some.ensures.variant.0 refl) in
    let state = c.hear_clock.ensures.state ∙ ap (λ b. state_after (params_of r) (own_clock b) (state_of r)) c.write.ensures in
    let after = handed rs.items c.args.place r c.hear_clock.new.r (own_clock (tick_encoded c.args.tick)) c.hear_clock.ensures.parameters state in
    on_ok_weaker c.note.result (λ e. e ∙ told_one c.args.line c.args.place c.args.tick _ (scene_of c.args.self.now) _ (there _ rs.items c.args.place r refl within c.in-Some.ensures.value) after) c.note.ensures
