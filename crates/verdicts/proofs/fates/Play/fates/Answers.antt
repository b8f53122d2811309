use Rattle.std.proofs.Common.{◌≡◌, ◌*◌, length, sym, ap, ◌∙◌, arith, rules}
use Rattle.verdicts.proofs.Tables.{noted_more, are_fates}
use Rattle.verdicts.proofs.fates.Play.fates.Goals as goal

pub loop-event-preserved : goal.loop-event-preserved
loop-event-preserved c = record {
  messages = search rules;
  receivers = search rules;
  moved = λ k n h i j l.
      let m = rw c.loop-event.invariant.receivers at (c.note.ensures.moved k n h (omega arith) j (omega arith)) in
      noted_more _ _ _ _ _ c.loop-event.event-index _ c.loop-event-test.true (c.loop-event.invariant.moved k n h i j l) m;
}

pub returns-clause-fates : goal.returns-clause-fates
returns-clause-fates c =
    let said = c.args.self.said.now in
    let fates = c.loop-event.fates in
    let long : length fates.all.items ≡ length said * c.args.self.receivers = sym fates.all.ok.0 ∙ fates.whole ∙ ap (λ m. m * fates.receivers) c.loop-event.invariant.messages ∙ ap (λ r. length said * r) c.loop-event.invariant.receivers in
    are_fates _ said _ _ c.loop-event.event-index _ _ c.in_ok-fates.ensures.all long c.loop-event-test.false c.loop-event.invariant.moved
