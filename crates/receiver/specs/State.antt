-- What the receiver's state and outcomes stand for in the model.
use Rattle.std.specs.Prelude.{◌≡◌, ℕ, ◌-◌, ◌<◌, ◌≤◌, List, Ok, Err, Result, slice_index, slice_index_or}
use Rattle.timing.specs.Time.{Params, parameters_of}
use Rattle.model.specs.Receiver as model
use Rattle.buffer.specs.Buffers.{messages_of}
use Rattle.buffer.specs.declared.message.Buffered.{Buffered}
use Rattle.buffer.specs.declared.room.Buffer.{Buffer}
use Rattle.timing.specs.declared.refusal.Refusal.{Refusal}
use Rattle.receiver.specs.declared.outcome.Accepted.{Accepted}
use Rattle.receiver.specs.declared.outcome.Accepted.TheVariants as accepted
use Rattle.receiver.specs.declared.state.Receiver.{Receiver}

abbrev pub done : Accepted → model.Outcome
done accepted.Told = model.told
done accepted.Buffered = model.buffered
done accepted.Already = model.already
done accepted.Taken = model.taken

abbrev pub meant : Result Accepted Refusal → model.Outcome
meant (Ok a) = done a
meant (Err e) = model.refused e

abbrev pub params_of : Receiver → Params
params_of r = parameters_of r.parameters

abbrev pub state_of : Receiver → model.State
state_of r = record { clock = r.clock; newest = r.newest; key = r.key.bytes; buffer = messages_of r.buffer }

-- how many intervals before interval j each buffered message has its own
abbrev pub Wants : ℕ → Buffer → List ℕ → Type 0
Wants j b out = (p : ℕ) (d : Buffered) → p < b.len → (slice_index_or b.messages p d).numbers.interval ≤ j → slice_index out p ≡ j - (slice_index_or b.messages p d).numbers.interval

-- no input costs more than 1,024 steps of the chain and 64 tags
pub record Work (steps tags expected : ℕ) : Type 0 where
  pub steps_are : steps ≡ expected
  pub few_steps : steps ≤ 1024
  pub few_tags : tags ≤ 64
