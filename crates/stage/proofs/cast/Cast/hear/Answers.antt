use Rattle.std.proofs.Common.{◌≡◌, ◌+◌, ◌<◌, length, refl, sym, ap, ◌∙◌, arith}
use Rattle.std.proofs.lemmas.Result.{on_ok_weaker}
use Rattle.buffer.specs.Buffers.{messages_in}
use Rattle.receiver.specs.Calls.{from_air}
use Rattle.wire.specs.Formats.{air_event}
use Rattle.stage.specs.declared.event.Deed.TheVariants.{Heard}
use Rattle.stage.specs.Saids.{which_message}
use Rattle.stage.specs.Scenes.{scene_of, site_of, heard_by, hearing_of, named}
use Rattle.stage.proofs.Scened.{there, absent, at_none, handed, named_meant, heard_one}
use Rattle.stage.proofs.cast.Cast.hear.Goals as goal

pub returns-in_default : goal.returns-in_default
unfolding heard_by
returns-in_default c =
    let rs = c.args.self.now.receivers in
    at_none c.args.place _ (scene_of c.args.self.now) (absent _ rs.items c.args.place refl (grind (arith, rs.ok.0, c.in_default.ensures.variant.1)))

pub returns : goal.returns
returns c =
    let s = scene_of c.args.self.now in
    let rs = c.args.self.now.receivers in
    let r = c.in-Some.hearer.now in
    let n = c.args.place in
    let b = c.args.bytes.now in
    let a = c.hear_air-answer.ensures in
    let within : n < length rs.items = omega (arith, rs.ok.0, c.in-Some.ensures.variant.0 refl) in
    let after = handed rs.items n r c.hear_air-answer.new.r (from_air b) a.parameters a.state in
    let which = c.which_message-message.ensures ∙ ap (λ ms. which_message (messages_in ms) (air_event b)) c.as_slice.ensures.value in
    let outcome = sym (named_meant c.hear_air-answer.result.outcome) ∙ ap named a.outcome in
    let deed : Heard (n + 1) r.clock c.args.number c.which_message-message.result c.hear_air-answer.result.outcome ≡ hearing_of (site_of r) (n + 1) c.args.number s.said b = cc (which, outcome) in
    on_ok_weaker c.deliver_all.result
    (λ e. e ∙ heard_one c.args.line n c.args.number b _ _ (site_of r) s (scene_of c.note.new.self) _ (there _ rs.items n r refl within c.in-Some.ensures.value) after deed a.delivered c.in_ok-note.ensures)
    c.deliver_all.ensures
