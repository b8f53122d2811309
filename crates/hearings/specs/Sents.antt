-- What was said, by the records on the air.
use Rattle.std.specs.Prelude.{ℕ, List, [], ◌∷◌, Some, None, Ok, Err, vec_items, Option, Result, Vec}
use Rattle.std.specs.List.{flat_map}
use Rattle.std.specs.declared.alloc.Global.{Global}
use Rattle.timing.specs.declared.refusal.Refusal.{Refusal}
use Rattle.timing.specs.declared.refusal.Refusal.TheVariants.{Malformed}
use Rattle.model.specs.Receiver.{Said, Event, ticked, heard, disclosed}
use Rattle.wire.specs.Formats.{air_event}
use Rattle.hearings.specs.declared.event.Sent.{Sent}
use Rattle.hearings.specs.declared.event.Sent.TheVariants as sent
use Rattle.hearings.specs.Saids.{saying_of}

-- a record on the air, with a list in the place of the text's vector
pub data Record : Type 0 where
  message : (says : Said) → (disclosed : ℕ) → Record
  key : (interval : ℕ) → Record

abbrev pub record_of : Sent → Record
record_of (sent.Message s j) = message (saying_of s) j
record_of (sent.Key i) = key i

-- what bytes from the air are as a record; a tick is none
abbrev pub record_in : Option Event → Result Record Refusal
record_in (Some (heard m j k)) = Ok (message m.says j)
record_in (Some (disclosed j k)) = Ok (key j)
record_in (Some (ticked t)) = Err Malformed
record_in None = Err Malformed

-- what a message says; nothing else says anything
abbrev pub said_in : Option Event → List Said
said_in (Some (heard m j k)) = m.says ∷ []
said_in (Some (disclosed j k)) = []
said_in (Some (ticked t)) = []
said_in None = []

-- what the messages among these records say
abbrev pub said_on : List (Vec ℕ Global) → List Said
said_on rs = flat_map (λ r. said_in (air_event (vec_items r))) rs
