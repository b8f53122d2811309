-- What a writer answers, and leaves in the memory: above 200 bytes of text it refuses, and writes nothing.
use Rattle.std.specs.Prelude.{ℕ, cond, List, length, Ok, Err, Result, nat_le}
use Rattle.timing.specs.declared.refusal.Refusal.{Refusal}
use Rattle.timing.specs.declared.refusal.Refusal.TheVariants.{Malformed}
use Rattle.model.specs.Receiver.{Said}
use Rattle.wire.specs.Bytes.{over}

-- how many bytes
abbrev pub written : Said → (bytes : List ℕ) → Result ℕ Refusal
written s bytes = cond (nat_le (length s.text) 200) (Ok (length bytes)) (Err Malformed)

-- the bytes at the front
abbrev pub written_over : Said → (bytes memory : List ℕ) → List ℕ
written_over s bytes memory = cond (nat_le (length s.text) 200) (over bytes memory) memory
