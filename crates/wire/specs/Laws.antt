-- What holds of the formats.
use Rattle.std.specs.Prelude.{◌≡◌, ℕ, ◌^◌, ◌<◌, true, List, length, take, Some, None, Ok, Err, ◌≢◌}
use Rattle.timing.specs.Time.{in_range}
use Rattle.timing.specs.declared.refusal.Refusal.TheVariants.{Malformed}
use Rattle.model.specs.Receiver.{Said, Event, ticked, heard, disclosed, message_bytes}
use Rattle.wire.specs.Fits.{Bytes, SaidFits, KeyFits, PacketFits, SetupFits}
use Rattle.wire.specs.Formats.{Key, Packet, packet, message_encoded, read_message, key_encoded, read_key, air_event, message_event, key_event, tick_encoded, read_tick, delivery_encoded, read_delivery}
use Rattle.wire.specs.Setup.{Setup, settings_encoded, settings_answer}

-- what is written is read back as it was
pub record WrittenRead : Type 0 where
  pub message : (x : Packet) → PacketFits x → read_message (message_encoded x) ≡ Some x
  pub key : (k : Key) → KeyFits k → read_key (key_encoded k) ≡ Some k
  pub heard_message : (x : Packet) → PacketFits x → air_event (message_encoded x) ≡ Some (message_event x)
  pub heard_key : (k : Key) → KeyFits k → air_event (key_encoded k) ≡ Some (key_event k)
  pub tick : (t : ℕ) → t < 2 ^ 64 → read_tick (tick_encoded t) ≡ Some t
  pub delivery : (s : Said) → SaidFits s → read_delivery (delivery_encoded s) ≡ Some s
  pub settings : (s : Setup) → SetupFits s → in_range s.numbers ≡ true → settings_answer (settings_encoded s) ≡ Ok s

-- the bytes that an event is read from
abbrev pub event_encoded : Event → List ℕ
event_encoded (ticked t) = tick_encoded t
event_encoded (heard x j k) = message_encoded (packet x.says x.tag (record { interval = j; key = k }))
event_encoded (disclosed j k) = key_encoded (record { interval = j; key = k })

-- what is read, written again, gives the same bytes: there is one encoding, and none but it is accepted
pub record ReadWritten : Type 0 where
  pub message : (b : List ℕ) (x : Packet) → Bytes b → read_message b ≡ Some x → message_encoded x ≡ b
  pub key : (b : List ℕ) (k : Key) → Bytes b → read_key b ≡ Some k → key_encoded k ≡ b
  pub air : (b : List ℕ) (e : Event) → Bytes b → air_event b ≡ Some e → event_encoded e ≡ b
  pub tick : (b : List ℕ) (t : ℕ) → Bytes b → read_tick b ≡ Some t → tick_encoded t ≡ b
  pub delivery : (b : List ℕ) (s : Said) → Bytes b → read_delivery b ≡ Some s → delivery_encoded s ≡ b
  pub settings : (b : List ℕ) (s : Setup) → Bytes b → settings_answer b ≡ Ok s → settings_encoded s ≡ b

-- two that differ in interval, index or text differ in the bytes under their tags
abbrev pub UnderTagApart : Type 0
UnderTagApart = (s t : Said) → message_bytes s ≡ message_bytes t → s ≡ t

-- every proper front of what is read is refused, and settings of any other length whatever they say
pub record FrontsRefused : Type 0 where
  pub air : (b : List ℕ) (e : Event) (n : ℕ) → air_event b ≡ Some e → n < length b → air_event (take n b) ≡ None
  pub tick : (b : List ℕ) (t n : ℕ) → read_tick b ≡ Some t → n < length b → read_tick (take n b) ≡ None
  pub delivery : (b : List ℕ) (s : Said) (n : ℕ) → read_delivery b ≡ Some s → n < length b → read_delivery (take n b) ≡ None
  pub settings : (b : List ℕ) → (length b ≢ 47) → settings_answer b ≡ Err Malformed

-- no bytes are both a tick and something from the air, and what is read from the air is no tick
pub record NoTickFromAir : Type 0 where
  pub apart : (b : List ℕ) (e : Event) → air_event b ≡ Some e → read_tick b ≡ None
  pub never : (b : List ℕ) (t : ℕ) → air_event b ≢ Some (ticked t)
