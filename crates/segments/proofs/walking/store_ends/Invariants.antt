use Rattle.std.proofs.Common.{◌≡◌, ◌*◌, min, length}
use Rattle.segments.specs.Parts.{key_at}
use Rattle.segments.proofs.Keys.{EndsFrom}
use Rattle.segments.proofs.walking.store_ends.Given as goal

-- the key is that of the last interval of the parts that are left, and the ends of the others are stored
abbrev pub invariant-loop-number : goal.invariant-loop-number
invariant-loop-number l = record {
  long : length l.ends ≡ 128;
  here : l.key.bytes ≡ key_at l.parameters.last l.fn.drawn.bytes (min (128 * l.number) l.parameters.last);
  stored : EndsFrom l.parameters.last l.number l.fn.drawn.bytes l.ends;
}
