use Rattle.std.proofs.Common.{not, eqb, length, is_ok, rules, sym, ap, ◌∙◌}
use borrow.Author.Tests.{tests}
use Rattle.std.proofs.ResultArms.{chosen}
use Rattle.std.proofs.lemmas.Iterator.Consumers.{YieldsList-at, YieldsList-from_filter, YieldsList-turn, YieldsList-end}
use Rattle.std.proofs.lemmas.Iterator.Splits.{YieldsList-from_slice_split}
use Rattle.std.proofs.lemmas.List.{length_push}
use Rattle.std.proofs.lemmas.Result.{err_from_is_err_and}
use Rattle.script.specs.Text.{pieces, words}
use Rattle.script.proofs.Numbers.{was_none, was_some, ahead_more, ahead_bad, ahead_all}
use Rattle.script.proofs.text.numbers.Goals as goal

pub returns-in_err-field : goal.returns-in_err-field
unfolding words pieces
returns-in_err-field c =
    let turn = YieldsList-turn
    (YieldsList-at c.into_iter-word-iterator.ensures.into_iter_gives
    (YieldsList-from_filter _ (λ w. not (eqb (length w) 0))
    (YieldsList-at c.filter-word-items.ensures.source
    (YieldsList-from_slice_split _ (λ b. eqb b 32) c.args.fields.now c.split.ensures.rest c.split.ensures.done c.split.ensures.closure (λ x r q k. search (rules, tests))))
    c.filter-word-items.ensures.closure (λ x r q k. search (rules, tests))))
    c.loop-word.yielded _ c.loop-word.yielded_by _ _ c.in-Some.word c.in-Some.is c.next.ensures.steps in
    let bad = was_none _ _ _ (sym c.field.ensures ∙ c.in_err-field.was) in
    let p = err_from_is_err_and c.from_residual.result c.from_residual.ensures.1 in
    rw (p.1, p.2, bad.1) (sym c.loop-word.invariant ∙ ahead_bad _ _ _ _ turn bad.0)

pub loop-word-preserved : goal.loop-word-preserved
unfolding words pieces
loop-word-preserved c =
    let turn = YieldsList-turn
    (YieldsList-at c.into_iter-word-iterator.ensures.into_iter_gives
    (YieldsList-from_filter _ (λ w. not (eqb (length w) 0))
    (YieldsList-at c.filter-word-items.ensures.source
    (YieldsList-from_slice_split _ (λ b. eqb b 32) c.args.fields.now c.split.ensures.rest c.split.ensures.done c.split.ensures.closure (λ x r q k. search (rules, tests))))
    c.filter-word-items.ensures.closure (λ x r q k. search (rules, tests))))
    c.loop-word.yielded _ c.loop-word.yielded_by _ _ c.in-Some.word c.in-Some.is c.next.ensures.steps in
    let pushed = chosen _ _ _ _ c.push.ensures.items (ap is_ok c.in_ok-push.was) in
    let good = was_some _ _ _ (sym c.field.ensures ∙ c.in_ok-field.was) in
    rw (pushed, length_push c.loop-word.yielded c.in-Some.word) (sym (ahead_more _ _ _ _ _ turn good) ∙ c.loop-word.invariant)

pub returns : goal.returns
unfolding words pieces
returns c =
    let end = YieldsList-end
    (YieldsList-at c.into_iter-word-iterator.ensures.into_iter_gives
    (YieldsList-from_filter _ (λ w. not (eqb (length w) 0))
    (YieldsList-at c.filter-word-items.ensures.source
    (YieldsList-from_slice_split _ (λ b. eqb b 32) c.args.fields.now c.split.ensures.rest c.split.ensures.done c.split.ensures.closure (λ x r q k. search (rules, tests))))
    c.filter-word-items.ensures.closure (λ x r q k. search (rules, tests))))
    c.loop-word.yielded _ c.loop-word.yielded_by _ _ c.in-None.is c.next.ensures.steps in
    sym c.loop-word.invariant ∙ ahead_all _ _ _ end.1
