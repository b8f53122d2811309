use Rattle.std.proofs.Common.{◌≡◌, ◌-◌, ◌%◌, ◌≤◌}
use Rattle.sha256.specs.Window.{At}
use Rattle.sha256.proofs.compression.Given as goal

abbrev pub invariant-loop-v : goal.invariant-loop-v
invariant-loop-v l = record { at_most : l.v.round ≤ 48; whole : l.v.round % 16 ≡ 0; stands : At l.block l.s l.v }

abbrev pub decreases-loop-v : goal.decreases-loop-v
decreases-loop-v l = 48 - l.v.round
