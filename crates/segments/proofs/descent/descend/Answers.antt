use Rattle.std.proofs.Common.{◌≡◌, ◌+◌, arith}
use Rattle.keychain.specs.Chain.{key_down}
use Rattle.keychain.proofs.Chains.{down_more}
use Rattle.segments.proofs.Keys.{below_keys}
use Rattle.segments.proofs.descent.descend.Goals as goal

pub loop-place-preserved : goal.loop-place-preserved
loop-place-preserved c =
    let i = c.loop-place.place-index in
    let k = c.args.top.bytes in
    let w = c.loop-place.invariant in
    let here : c.previous-key.result.bytes ≡ key_down (i + 1) k = cc (w.here, down_more i k) in
    record { here = here; written = below_keys i k c.loop-place.below c.previous-key.result (omega arith) here w.written }
