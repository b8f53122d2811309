-- The formats, over lists of numbers.
use Rattle.std.specs.Prelude.{◌≡◌, ℕ, ◌+◌, ◌/◌, ◌%◌, Bool, cond, ◌&&◌, List, ◌∷◌, ◌++◌, length, take, drop, Some, None, Option, ◌==◌, nat_le, slice_index}
use Rattle.timing.specs.declared.refusal.Refusal.{Refusal}
use Rattle.timing.specs.declared.refusal.Refusal.TheVariants.{Malformed}
use Rattle.model.specs.Receiver.{Said, Message, Event, heard, disclosed, message_bytes}
use Rattle.wire.specs.Bytes.{two, two_at, eight, eight_at}

-- a disclosed key and its interval (0: none)
pub record Key : Type 0 where
  pub interval : ℕ
  pub key : List ℕ

-- a message and the key behind it
pub record Packet : Type 0 where
  pub message : Message
  pub behind : Key

abbrev pub packet : Said → (tag : List ℕ) → Key → Packet
packet s t k = record { message = record { says = s; tag = t }; behind = k }

-- interval (2), key (32)
abbrev pub key_part : Key → List ℕ
key_part k = two k.interval ++ k.key

abbrev pub key_part_in : List ℕ → Key
key_part_in b = record { interval = two_at b 0; key = drop 2 b }

-- kind, interval (2), index (1), length (1), text: the bytes under a tag, and a delivery
abbrev pub said_bytes : (kind : ℕ) → Said → List ℕ
said_bytes k s = k ∷ (s.interval / 256) ∷ (s.interval % 256) ∷ s.index ∷ length s.text ∷ s.text

abbrev pub said_in : List ℕ → Said
said_in b = record { interval = two_at b 1; index = slice_index b 3; text = take (slice_index b 4) (drop 5 b) }

abbrev pub behind_text : List ℕ → List ℕ
behind_text b = drop (slice_index b 4) (drop 5 b)

-- of this kind, with a text of at most 200 bytes and so many bytes in all besides it
abbrev pub has_form : (kind besides : ℕ) → List ℕ → Bool
has_form k n b = slice_index b 0 == k && (nat_le (slice_index b 4) 200 && length b == slice_index b 4 + n)

-- message: kind 1 and what it says, tag (16), disclosed key
abbrev pub message_encoded : Packet → List ℕ
message_encoded x = message_bytes x.message.says ++ (x.message.tag ++ key_part x.behind)

abbrev pub packet_in : List ℕ → Packet
packet_in b = record { message = record { says = said_in b; tag = take 16 (behind_text b) }; behind = key_part_in (drop 16 (behind_text b)) }

abbrev pub read_message : List ℕ → Option Packet
read_message b = cond (has_form 1 55 b) (Some (packet_in b)) None

-- key by itself: kind 2, interval (2), key (32)
abbrev pub key_encoded : Key → List ℕ
key_encoded k = 2 ∷ key_part k

abbrev pub read_key : List ℕ → Option Key
read_key b = cond (slice_index b 0 == 2 && length b == 35) (Some (key_part_in (drop 1 b))) None

-- what comes from the air, as the event that it is to a receiver
abbrev pub message_event : Packet → Event
message_event x = heard x.message x.behind.interval x.behind.key

abbrev pub key_event : Key → Event
key_event k = disclosed k.interval k.key

abbrev pub air_event : List ℕ → Option Event
air_event b =
    cond (has_form 1 55 b) (Some (message_event (packet_in b)))
    (cond (slice_index b 0 == 2 && length b == 35) (Some (key_event (key_part_in (drop 1 b)))) None)

-- the receiver's own clock: kind 3, tick (8)
abbrev pub tick_encoded : ℕ → List ℕ
tick_encoded t = 3 ∷ eight t

abbrev pub read_tick : List ℕ → Option ℕ
read_tick b = cond (slice_index b 0 == 3 && length b == 9) (Some (eight_at b 1)) None

-- delivery: kind 16 and what the message says
abbrev pub delivery_encoded : Said → List ℕ
delivery_encoded s = said_bytes 16 s

abbrev pub read_delivery : List ℕ → Option Said
read_delivery b = cond (has_form 16 5 b) (Some (said_in b)) None

-- bytes that are read as nothing are malformed
abbrev pub Unread : {A : Type 0} → Option A → Refusal → Type 0
Unread o e = (e ≡ Malformed) × (o ≡ None)
