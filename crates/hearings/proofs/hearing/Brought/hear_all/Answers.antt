use Rattle.std.proofs.Common.{◌≡◌, ◌<◌, ◌≢◌, length, get_or, is_ok, refl, ap, ◌∙◌, arith, get_or-set_other}
use Rattle.std.proofs.ResultArms.{chosen}
use Rattle.std.proofs.lemmas.List.{get_or_default}
use Rattle.hearings.specs.Hearings.{hearings_of, heard_from}
use Rattle.hearings.proofs.Heard.{heard_more, states_more}
use Rattle.hearings.proofs.hearing.Brought.hear_all.Goals as goal

pub loop-i-init : goal.loop-i-init
unfolding heard_from
loop-i-init c = record {
  heard = ap hearings_of c.new-all.ensures.items;
  left = λ k d h. refl;
  states = λ k d h. absurd (omega (arith, h));
}

pub loop-i-preserved : goal.loop-i-preserved
loop-i-preserved c =
    let rs = c.args.receivers.now in
    let now = c.loop-i.receivers in
    let i = c.loop-i.i in
    let d = c.index-receivers-i.result in
    let old = get_or now i d in
    let there : i < length rs = omega arith in
    let here : i < length now = omega arith in
    let was : old ≡ get_or rs i old = c.loop-i.invariant.left i d (omega arith) ∙ get_or_default rs i d old there in
    let pushed = chosen _ _ _ _ c.push.ensures.items (ap is_ok c.in_ok-push.was) in
    record {
      heard = ap hearings_of pushed ∙ heard_more _ _ rs i old _ _ there was c.in_ok-hear.ensures.heard c.loop-i.invariant.heard;
      left = λ k e h. let ne : k ≢ i = omega (arith, h) in rw get_or-set_other (c.loop-i.invariant.left k e (omega (arith, h)));
      states = states_more c.args.self.bytes.now rs now i _ old here there was c.hear.ensures.state c.loop-i.invariant.states;
    }
