-- What making a receiver from the settings' bytes comes to.
use Rattle.std.specs.Prelude.{◌≡◌, ℕ, cond, List, length, Ok, Err, Result, nat_lt, slice_index_or}
use Rattle.timing.specs.Numbers.{refusal_number}
use Rattle.timing.specs.declared.refusal.Refusal.{Refusal}
use Rattle.model.specs.Receiver.{first_state}
use Rattle.wire.specs.Bytes.{over}
use Rattle.wire.specs.Formats.{delivery_encoded}
use Rattle.wire.specs.Setup.{Setup}
use Rattle.buffer.specs.Buffers.{as_said}
use Rattle.buffer.specs.declared.message.Buffered.{Buffered}
use Rattle.buffer.specs.declared.room.Buffer.{Buffer}
use Rattle.receiver.specs.State.{params_of, state_of}
use Rattle.receiver.specs.declared.state.Receiver.{Receiver}

abbrev pub made_number : Result Setup Refusal → ℕ
made_number (Ok s) = 0
made_number (Err e) = refusal_number e

-- the receiver as it is first, or as it was
abbrev pub Made : Result Setup Refusal → (was is : Receiver) → Type 0
Made (Ok s) r r' = (params_of r' ≡ s.numbers) × (state_of r' ≡ first_state s.commitment)
Made (Err e) r r' = r' ≡ r

-- the record of delivery i; d is read past the end
abbrev pub record_at : Buffer → ℕ → (d : Buffered) → List ℕ
record_at b i d = delivery_encoded (as_said (slice_index_or b.messages i d))

abbrev pub record_length : Buffer → ℕ → Buffered → ℕ
record_length b i d = cond (nat_lt i b.len) (length (record_at b i d)) 0

abbrev pub record_over : Buffer → ℕ → Buffered → List ℕ → List ℕ
record_over b i d m = cond (nat_lt i b.len) (over (record_at b i d) m) m
