use Rattle.std.proofs.Common.{◌≡◌, vec_items}
use Rattle.std.specs.Slice.Iter.{chunks_rest, chunks_size}
use Rattle.script.proofs.Numbers.{ahead}
use Rattle.orders.specs.Hex.{hex_bytes}
use Rattle.orders.proofs.hex.bytes.Given as goal

abbrev pub invariant-loop-pair : goal.invariant-loop-pair
invariant-loop-pair l = record {
  bytes : ahead (vec_items l.all) (hex_bytes (chunks_rest l.pair-iterator)) ≡ hex_bytes l.word;
  size : chunks_size l.pair-iterator ≡ 2;
}
