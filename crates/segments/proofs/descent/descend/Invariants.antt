use Rattle.std.proofs.Common.{◌≡◌, ℕ, ◌+◌, ◌<◌}
use Rattle.keychain.specs.Chain.{key_down}
use Rattle.segments.specs.Parts.{at}
use Rattle.segments.proofs.descent.descend.Given as goal

-- the key is that of the place before, and the places so far have theirs
abbrev pub invariant-loop-place : goal.invariant-loop-place
invariant-loop-place l = record {
  here : l.key.bytes ≡ key_down l.place-index l.initial.key.bytes;
  written : (j : ℕ) → j < l.place-index → at l.below j ≡ key_down (j + 1) l.initial.key.bytes;
}
