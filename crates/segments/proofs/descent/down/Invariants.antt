use Rattle.std.proofs.Common.{◌≡◌}
use Rattle.keychain.specs.Chain.{key_down}
use Rattle.segments.proofs.descent.down.Given as goal

abbrev pub invariant-loop-i : goal.invariant-loop-i
invariant-loop-i l = l.key.bytes ≡ key_down l._i l.initial.key.bytes
