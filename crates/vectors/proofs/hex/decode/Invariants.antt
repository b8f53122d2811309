use Rattle.std.proofs.Common.{◌≡◌, map, Some, take}
use Rattle.vectors.specs.Hex.{byte_value}
use Rattle.vectors.proofs.hex.decode.Given as goal

abbrev pub invariant-loop-high : goal.invariant-loop-high
invariant-loop-high l = map Some l.bytes.items ≡ map byte_value (take l.high-index l.pairs)
