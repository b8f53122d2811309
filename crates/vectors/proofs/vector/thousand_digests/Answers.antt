use Rattle.std.proofs.Common.{◌≡◌, arith}
use Rattle.vectors.proofs.Chains.{chained_more, chained_none}
use Rattle.vectors.proofs.vector.thousand_digests.Goals as goal

pub loop-preserved : goal.loop-preserved
loop-preserved c =
    rw (c.sha256-next.ensures, c.as_flattened.ensures.value) (chained_more 1000 _ _ _ _ _ c.loop-test.true c.loop.invariant)

pub returns : goal.returns
returns c =
    let e : c.loop.counter ≡ 1000 = omega arith in
    chained_none 1000 c.loop.counter c.loop.a c.loop.b c.loop.c _ e c.loop.invariant
