use Rattle.std.proofs.Common.{sym, ◌∙◌}
use Rattle.script.proofs.Words.{digit_more, digit_bad, digit_all, decimal_some}
use Rattle.script.proofs.text.number.Goals as goal

pub returns-in_err-n : goal.returns-in_err-n
returns-in_err-n c =
    c.from_residual.ensures ∙ sym (digit_bad _ c.loop-b.b-index _ c.loop-b-test.true c.in_err-n.ensures) ∙ c.loop-b.invariant ∙ sym (decimal_some _ (sym c.if-is_empty.ensures))

pub loop-b-preserved : goal.loop-b-preserved
loop-b-preserved c = sym (digit_more _ _ c.loop-b.b-index _ c.loop-b-test.true c.in_ok-n.ensures) ∙ c.loop-b.invariant

pub returns : goal.returns
returns c = sym (digit_all _ c.loop-b.b-index _ c.loop-b-test.false) ∙ c.loop-b.invariant ∙ sym (decimal_some _ (sym c.if-is_empty.ensures))
