use Rattle.std.proofs.Common.{◌≡◌, ◌++◌, map, take, drop, bit_xor}
use Rattle.sha256.proofs.xor_pad.Given as goal

abbrev pub invariant-loop-x : goal.invariant-loop-x
invariant-loop-x l = l.x-items ≡ map (λ x. bit_xor x l.pad) (take l.x-index l.block) ++ drop l.x-index l.block
