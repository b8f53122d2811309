-- What goes on the air, and what comes of what is brought.
use Rattle.std.specs.Prelude.{◌≡◌, ℕ, ◌-◌, ◌≤◌, List, [], ◌∷◌, ◌++◌, map, length, Some, None, Ok, Err, vec_items, Option, Result, Vec, slice_index_or}
use Rattle.std.specs.declared.alloc.Global.{Global}
use Rattle.timing.specs.declared.refusal.Refusal.{Refusal}
use Rattle.wire.specs.Formats.{message_encoded}
use Rattle.sender.specs.Of.{state_of}
use Rattle.sender.specs.State.{Spoken, sent, refused, tick_bytes, tick_answer, say_answer}
use Rattle.orders.specs.declared.command.Command.{Command}
use Rattle.orders.specs.declared.command.Command.TheVariants as command
use Rattle.orders.specs.declared.command.Whom.{Whom}
use Rattle.simulation.specs.declared.cast.Cast.{Cast}
use Rattle.hearings.specs.declared.event.Deed.{Deed}
use Rattle.hearings.specs.declared.event.Deed.TheVariants.{Brought}
use Rattle.hearings.specs.declared.event.Event.{Event}
use Rattle.hearings.specs.declared.event.Hearing.{Hearing}
use Rattle.hearings.specs.Hearings.{hearings_of, Brings}
use Rattle.hearings.specs.Sents.{said_on}

abbrev pub bytes_of : List (Vec ℕ Global) → List (List ℕ)
bytes_of rs = map vec_items rs

-- the records on the air, the oldest first
abbrev pub records_of : Cast → List (List ℕ)
records_of c = bytes_of (vec_items c.air)

-- what a tick of the sender sends
abbrev pub tick_sends : Result (Option (List ℕ)) Refusal → List (List ℕ)
tick_sends (Ok (Some b)) = b ∷ []
tick_sends (Ok None) = []
tick_sends (Err e) = []

-- what the sender sends to say something
abbrev pub say_sends : Spoken → List (List ℕ)
say_sends (sent x) = message_encoded x ∷ []
say_sends (refused e) = []

abbrev pub event_at : (line : ℕ) → Deed → Event
event_at l d = record { line = l; deed = d }

-- one event more: the receivers that are named hear the bytes, and a delivery is said exactly if a message on the air says it
pub record Reached (line : ℕ) (number : Option ℕ) (to : Whom) (bytes : List ℕ) (before after : Cast) : Type 0 where
  pub hearings : Vec Hearing Global
  pub event : vec_items after.events ≡ vec_items before.events ++ event_at line (Brought number hearings) ∷ []
  pub heard : Brings (said_on (vec_items before.air)) to bytes (vec_items before.receivers) (hearings_of (vec_items hearings))
  pub air_stays : records_of after ≡ records_of before

-- the air and the events are as they were
pub record Stays (before after : Cast) : Type 0 where
  pub air : after.air ≡ before.air
  pub events : after.events ≡ before.events

-- the same as a deed, before it is noted
pub record Hears (number : Option ℕ) (to : Whom) (bytes : List ℕ) (before after : Cast) (deed : Deed) : Type 0 where
  pub hearings : Vec Hearing Global
  pub brought : deed ≡ Brought number hearings
  pub heard : Brings (said_on (vec_items before.air)) to bytes (vec_items before.receivers) (hearings_of (vec_items hearings))
  pub stays : Stays before after

-- the bytes are those of a record on the air
pub record HearsAgain (number : ℕ) (to : Whom) (before after : Cast) (deed : Deed) : Type 0 where
  pub first : 1 ≤ number
  pub last : number ≤ length (vec_items before.air)
  pub hears : (d : Vec ℕ Global) → Hears (Some number) to (vec_items (slice_index_or (vec_items before.air) (number - 1) d)) before after deed

-- what a command of a play that goes on does, before it is noted; others have no place there
abbrev pub Does : Command → (before after : Cast) → Option Deed → Type 0
Does (command.Time t) b a d = (records_of a ≡ records_of b ++ tick_sends (tick_bytes (tick_answer (state_of b.sender) t))) × (a.events ≡ b.events)
Does (command.Say t) b a d = (records_of a ≡ records_of b ++ say_sends (say_answer (state_of b.sender) (vec_items t))) × (a.events ≡ b.events)
Does (command.Clock r t) b a d = (d ≡ None) × Stays b a
Does (command.Clocks ts) b a d = (d ≡ None) × Stays b a
Does (command.Bring k w) b a d = (e : Deed) × (d ≡ Some e) × HearsAgain k w b a e
Does (command.Bytes w x) b a d = (e : Deed) × (d ≡ Some e) × Hears None w (vec_items x) b a e
Does command.Play b a d = ⊥
Does (command.Settings s) b a d = ⊥
Does (command.Drawn k) b a d = ⊥
Does (command.Receivers n) b a d = ⊥
Does command.End b a d = ⊥

-- a record on the air that is brought as it was
abbrev pub ReachedAgain : (line : ℕ) → (number : ℕ) → (to : Whom) → (before after : Cast) → Type 0
ReachedAgain n k w b a = (1 ≤ k) × ((k ≤ length (vec_items b.air)) × ((d : Vec ℕ Global) → Reached n (Some k) w (vec_items (slice_index_or (vec_items b.air) (k - 1) d)) b a))

-- what a command does to the air, and the event that is noted of bytes that are brought
abbrev pub Performed : (line : ℕ) → Command → (before after : Cast) → Type 0
Performed n (command.Time t) b a = records_of a ≡ records_of b ++ tick_sends (tick_bytes (tick_answer (state_of b.sender) t))
Performed n (command.Say t) b a = records_of a ≡ records_of b ++ say_sends (say_answer (state_of b.sender) (vec_items t))
Performed n (command.Clock r t) b a = Stays b a
Performed n (command.Clocks ts) b a = Stays b a
Performed n (command.Bring k w) b a = ReachedAgain n k w b a
Performed n (command.Bytes w x) b a = Reached n None w (vec_items x) b a
Performed n command.Play b a = ⊥
Performed n (command.Settings s) b a = ⊥
Performed n (command.Drawn k) b a = ⊥
Performed n (command.Receivers m) b a = ⊥
Performed n command.End b a = ⊥
