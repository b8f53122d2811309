use Rattle.std.proofs.Common.{◌≡◌, ◌+◌, true, false, eqb, rules, arith, length-drop}
use borrow.Author.Tests.{tests}
use Rattle.std.proofs.lemmas.Iterator.{YieldsList-from_slice, IsFirst-from_position}
use Rattle.script.proofs.Cuts.{cut_here, cut_nowhere}
use Rattle.script.proofs.text.cut.Goals as goal

pub returns-in_err-i : goal.returns-in_err-i
returns-in_err-i c =
    let p = IsFirst-from_position _ _ c.position.result (λ x. eqb x c.args.separator ≡ true) (λ x. eqb x c.args.separator ≡ false) c.position.ensures.ran (YieldsList-from_slice c.args.s.now cc) (λ x q k. search (rules, tests)) (λ x q k. search (rules, tests)) in
    rw c.from_residual.ensures (cut_nowhere _ _ (rw c.in_err-i.was at p))

pub returns : goal.returns
returns c =
    let p = IsFirst-from_position _ _ c.position.result (λ x. eqb x c.args.separator ≡ true) (λ x. eqb x c.args.separator ≡ false) c.position.ensures.ran (YieldsList-from_slice c.args.s.now cc) (λ x q k. search (rules, tests)) (λ x q k. search (rules, tests)) in
    let here = rw c.in_ok-i.was at p in
    rw (c.around.ensures.before, c.around.ensures.behind) (cut_here _ _ _ here.0 here.1 here.2, omega (arith, length-drop (c.in_ok-i.i + 1) c.args.s.now, here.0))
