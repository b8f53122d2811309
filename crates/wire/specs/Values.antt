-- What the values of the code stand for.
use Rattle.wire.specs.declared.key.DisclosedKey.{DisclosedKey}
use Rattle.wire.specs.declared.said.Said.{Said}
use Rattle.wire.specs.declared.message.Message.{Message}
use Rattle.model.specs.Receiver as model
use Rattle.wire.specs.Formats.{Key, Packet, packet}

abbrev pub key_of : DisclosedKey → Key
key_of k = record { interval = k.interval; key = k.key.now }

abbrev pub said_of : Said → model.Said
said_of s = record { interval = s.interval; index = s.index; text = s.text.now }

abbrev pub packet_of : Message → Packet
packet_of m = packet (said_of m.said) m.tag.now (key_of m.disclosed)
