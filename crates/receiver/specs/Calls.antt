-- What a receiver does with the bytes that it is handed: from its own clock, or from the air.
use Rattle.std.specs.Prelude.{ℕ, List, [], Some, None, Option}
use Rattle.timing.specs.Time.{Params}
use Rattle.timing.specs.declared.refusal.Refusal.TheVariants.{Malformed}
use Rattle.sha256.specs.Hmac.{hmac}
use Rattle.model.specs.Receiver.{Said, Event, ticked, Outcome, refused, State, after, outcome, delivered, steps}
use Rattle.wire.specs.Formats.{read_tick, air_event}

pub data Input : Type 0 where
  own_clock : List ℕ → Input
  from_air : List ℕ → Input

abbrev pub tick_event : Option ℕ → Option Event
tick_event (Some t) = Some (ticked t)
tick_event None = None

-- the event that bytes are, if they have the form of one
abbrev pub event_of : Input → Option Event
event_of (own_clock b) = tick_event (read_tick b)
event_of (from_air b) = air_event b

-- bytes without such a form are refused with 1, and change nothing
abbrev pub state_by : Params → Option Event → State → State
state_by p (Some e) s = after p hmac e s
state_by p None s = s

abbrev pub outcome_by : Params → Option Event → State → Outcome
outcome_by p (Some e) s = outcome p hmac e s
outcome_by p None s = refused Malformed

abbrev pub delivered_by : Params → Option Event → State → List Said
delivered_by p (Some e) s = delivered p hmac e s
delivered_by p None s = []

abbrev pub steps_by : Params → Option Event → State → ℕ
steps_by p (Some e) s = steps p e s
steps_by p None s = 0

abbrev pub state_after : Params → Input → State → State
state_after p i s = state_by p (event_of i) s

abbrev pub outcome_of : Params → Input → State → Outcome
outcome_of p i s = outcome_by p (event_of i) s

abbrev pub delivered_of : Params → Input → State → List Said
delivered_of p i s = delivered_by p (event_of i) s

abbrev pub steps_of : Params → Input → State → ℕ
steps_of p i s = steps_by p (event_of i) s
