use Rattle.std.proofs.Common.{◌≡◌, true, false, eqb, rules}
use borrow.Author.Tests.{tests}
use Rattle.std.proofs.lemmas.Iterator.{YieldsList-from_slice, IsFirst-from_position}
use Rattle.std.proofs.lemmas.List.{take_rest}
use Rattle.script.proofs.Words.{found_at, nowhere}
use Rattle.script.proofs.text.next_word.Goals as goal

pub returns-in_err-start : goal.returns-in_err-start
returns-in_err-start c =
    let p = IsFirst-from_position _ _ c.position.result (λ x. eqb x 32 ≡ false) (λ x. eqb x 32 ≡ true) c.position.ensures.ran (YieldsList-from_slice c.args.line.now cc) (λ x q k. search (rules, tests)) (λ x q k. search (rules, tests)) in
    let none = nowhere _ (rw c.in_err-start.was at p) in
    rw c.from_residual.ensures record { words = none.0; parts = none.1 }

pub returns : goal.returns
returns c =
    let p = IsFirst-from_position _ _ c.position.result (λ x. eqb x 32 ≡ false) (λ x. eqb x 32 ≡ true) c.position.ensures.ran (YieldsList-from_slice c.args.line.now cc) (λ x q k. search (rules, tests)) (λ x q k. search (rules, tests)) in
    let here = rw c.in_ok-start.was at p in
    let q = found_at c.args.line.now c.first_piece.result.0.now c.first_piece.result.1.now c.in_ok-start.start here (rw (take_rest c.args.line.now c.in_ok-start.start) at c.first_piece.ensures) in
    record { words = (q.words_are, q.shorter); parts = (q.word_is, q.rest_is) }
