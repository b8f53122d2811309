-- The head of a frame: source (0 the receiver's own clock, 1 the air), how many bytes follow (2, high byte first).
use Rattle.std.specs.Prelude.{ℕ, ◌+◌, ◌*◌, cond, List, Ok, Err, Result, ◌==◌, slice_index}
use Rattle.timing.specs.declared.refusal.Refusal.{Refusal}
use Rattle.timing.specs.declared.refusal.Refusal.TheVariants.{Malformed}
use Rattle.frames.specs.declared.head.Head.{Head}
use Rattle.frames.specs.declared.head.Source.{Source}
use Rattle.frames.specs.declared.head.Source.TheVariants.{Clock, Air}

abbrev pub source_byte : Source → ℕ
source_byte Clock = 0
source_byte Air = 1

abbrev pub source_of : ℕ → Result Source Refusal
source_of n = cond (n == 0) (Ok Clock) (cond (n == 1) (Ok Air) (Err Malformed))

abbrev pub len_in : List ℕ → ℕ
len_in b = slice_index b 1 * 256 + slice_index b 2

abbrev pub head_answer : List ℕ → Result Head Refusal
head_answer b = cond (slice_index b 0 == 0) (Ok (record { source = Clock; len = len_in b })) (cond (slice_index b 0 == 1) (Ok (record { source = Air; len = len_in b })) (Err Malformed))
