use Rattle.std.proofs.Common.{◌≡◌, ◌+◌, ◌*◌, ◌++◌, replicate, ap, ◌∙◌, arith}
use Rattle.std.proofs.lemmas.List.{replicate-append-replicate}
use Rattle.verdicts.specs.Fates.{no_fate}
use Rattle.verdicts.proofs.Tables.{fresh}
use Rattle.verdicts.proofs.fates.Fates.blank.Goals as goal

pub loop-message-preserved : goal.loop-message-preserved
loop-message-preserved c =
    let i = c.loop-message._message in
    let r = c.args.receivers in
    let row = c.as_slice.ensures.value ∙ c.in_ok-row.ensures.items_if_clones_equal (λ y e. e) ∙ ap (replicate r) (fresh c.default.result c.default.ensures) in
    let more : i * r + r ≡ (i + 1) * r = omega arith in
    c.in_ok-extend_from_slice.ensures.items ∙ ap (λ xs. xs ++ c.as_slice.result.now) c.loop-message.invariant
    ∙ ap (λ ys. replicate (i * r) no_fate ++ ys) row ∙ replicate-append-replicate (i * r) r no_fate ∙ ap (λ n. replicate n no_fate) more
