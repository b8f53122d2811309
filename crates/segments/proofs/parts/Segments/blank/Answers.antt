use Rattle.std.proofs.Common.{List, replicate, refl, arith}
use Rattle.keychain.specs.declared.key.Key.{Key}
use Rattle.keychain.specs.Chain.{zero_key}
use Rattle.segments.proofs.Keys.{one_key, one_part}
use Rattle.segments.proofs.parts.Segments.blank.Goals as goal

zeros : List Key
zeros = replicate 128 zero_key

pub invariant_of-result-2-clause-ends_are : goal.invariant_of-result-2-clause-ends_are
unfolding zeros
invariant_of-result-2-clause-ends_are c b h = one_key 1 b zeros refl h

pub invariant_of-result-2-clause-keys_are : goal.invariant_of-result-2-clause-keys_are
unfolding zeros
invariant_of-result-2-clause-keys_are c j h = one_part 1 j zeros zeros refl (omega arith) refl
