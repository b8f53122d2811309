use Rattle.std.proofs.Common.{is_ok, min, length, sym, ap, ◌∙◌}
use Rattle.std.proofs.ResultArms.{chosen}
use Rattle.std.proofs.lemmas.Result.{err_from_is_err_and}
use Rattle.std.specs.Slice.Iter.{chunks_rest}
use Rattle.script.proofs.Numbers.{was_none, was_some}
use Rattle.orders.proofs.Digits.{Chunk, byte_more, byte_bad, none_left}
use Rattle.orders.proofs.hex.bytes.Goals as goal

pub returns-in_err-ok_or : goal.returns-in_err-ok_or
returns-in_err-ok_or c =
    let steps = c.in-Some.ensures.steps in
    let s = chunks_rest c.loop-pair.pair-iterator in
    let chunk : Chunk s c.in-Some.pair.now (chunks_rest c.next.new.self) = record { parts = steps.1.0; size = steps.1.1 ∙ ap (λ n. min n (length s)) c.loop-pair.invariant.size; some = steps.1.2 } in
    let bad = was_none _ _ _ (sym c.ok_or.ensures.value ∙ c.in_err-ok_or.was) in
    let p = err_from_is_err_and c.from_residual.result c.from_residual.ensures.1 in
    rw (p.1, p.2, bad.1) (sym c.loop-pair.invariant.bytes ∙ byte_bad _ _ _ _ chunk (bad.0 ∙ c.byte.ensures))

pub loop-pair-preserved : goal.loop-pair-preserved
loop-pair-preserved c =
    let steps = c.in-Some.ensures.steps in
    let s = chunks_rest c.loop-pair.pair-iterator in
    let chunk : Chunk s c.in-Some.pair.now (chunks_rest c.next.new.self) = record { parts = steps.1.0; size = steps.1.1 ∙ ap (λ n. min n (length s)) c.loop-pair.invariant.size; some = steps.1.2 } in
    let pushed = chosen _ _ _ _ c.push.ensures.items (ap is_ok c.in_ok-push.was) in
    let good = was_some _ _ _ (sym c.ok_or.ensures.value ∙ c.in_ok-ok_or.was) in
    record {
      bytes = rw (pushed) (sym (byte_more _ _ _ _ _ chunk (good ∙ c.byte.ensures)) ∙ c.loop-pair.invariant.bytes);
      size = steps.0 ∙ c.loop-pair.invariant.size;
    }

pub returns : goal.returns
returns c = sym c.loop-pair.invariant.bytes ∙ none_left _ _ c.in-None.ensures.steps.1.0
