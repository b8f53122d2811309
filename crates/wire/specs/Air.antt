-- What was read from the air, as an event.
use Rattle.std.specs.Prelude.{◌≡◌}
use Rattle.wire.specs.declared.air.Air.{Air}
use Rattle.wire.specs.declared.air.Air.TheVariants as air
use Rattle.wire.specs.declared.message.Message as message
use Rattle.model.specs.Receiver.{Event, message_bytes}
use Rattle.wire.specs.Fits.{KeyFits, PacketFits}
use Rattle.wire.specs.Formats.{message_event, key_event}
use Rattle.wire.specs.Values.{key_of, said_of, packet_of}

abbrev pub event_of : Air → Event
event_of (air.Message m) = message_event (packet_of m)
event_of (air.Key k) = key_event (key_of k)

-- the bytes handed on as those under the tag are what the model has under it, and all fits
pub record Received (m : message.Message) : Type 0 where
  pub under : m.under_tag.now ≡ message_bytes (said_of m.said)
  pub fits : PacketFits (packet_of m)

abbrev pub Stands : Air → Type 0
Stands (air.Message m) = Received m
Stands (air.Key k) = KeyFits (key_of k)
