use Rattle.std.proofs.Common.{◌≡◌, ◌<◌, length, get_or, refl, ap, ◌∙◌, arith}
use Rattle.buffer.specs.declared.message.Buffered.{Buffered}
use Rattle.std.proofs.lemmas.Bool.{lt-ltb, le-ltb}
use Rattle.std.proofs.lemmas.List.Filters.{FiltersInPlace-more_set, FiltersInPlace-more_no}
use Rattle.buffer.specs.Buffers.{messages_in}
use Rattle.buffer.proofs.Lists.{still_kept}
use Rattle.buffer.proofs.room.Buffer.forget.Goals as goal
use Rattle.buffer.proofs.room.Buffer.forget.Goals.{then-w-upto, else-w-upto}

pub loop-i-init : goal.loop-i-init
loop-i-init c = (refl, record { front = refl; rest = refl; behind = omega arith; within = omega arith; long = refl })

pub loop-i-preserved : goal.loop-i-preserved
loop-i-preserved c =
    let h : c.loop-i.i < length c.loop-i.self.messages = omega (arith, c.loop-i.self.sized, c.args.self.now.few) in
    let x = get_or c.loop-i.self.messages c.loop-i.i c.index-self-i.result in
    let is : x ≡ get_or c.loop-i.self.messages c.loop-i.i x = ap (λ (d : Buffered). get_or c.loop-i.self.messages c.loop-i.i d) c.index-self-i.is in
    elim c.if-w-upto.branch [
      | then-w-upto w ↦ rw (w.self-is, w.k-is) (c.loop-i.invariant.0, FiltersInPlace-more_set {x = x} c.loop-i.invariant.1 h (lt-ltb _ _ w.if-w-upto.true) is)
      | else-w-upto w ↦ rw (w.self-is, w.k-is) (c.loop-i.invariant.0, FiltersInPlace-more_no {x = x} c.loop-i.invariant.1 h (le-ltb _ _ w.if-w-upto.false) is)
    ]

pub returns : goal.returns
returns c =
    let e : c.loop-i.i ≡ c.args.self.now.len = omega arith in
    rw (← e) (ap messages_in c.loop-i.invariant.1.front ∙ still_kept c.args.upto _)
