-- Values that fit their bytes.
use Rattle.std.specs.Prelude.{◌≡◌, ℕ, ◌^◌, ◌<◌, ◌≤◌, List, ◌++◌, length, slice_index}
use Rattle.model.specs.Receiver.{Said}
use Rattle.wire.specs.Setup.{Setup}
use Rattle.wire.specs.Formats.{Key, Packet, said_bytes}

abbrev pub Bytes : List ℕ → Type 0
Bytes b = (i : ℕ) → slice_index b i < 256

pub record SaidFits (s : Said) : Type 0 where
  pub interval : s.interval < 65536
  pub index : s.index < 256
  pub text : length s.text ≤ 200

pub record KeyFits (k : Key) : Type 0 where
  pub interval : k.interval < 65536
  pub key : length k.key ≡ 32

pub record PacketFits (x : Packet) : Type 0 where
  pub says : SaidFits x.message.says
  pub tag : length x.message.tag ≡ 16
  pub behind : KeyFits x.behind

pub record SetupFits (s : Setup) : Type 0 where
  pub start : s.start < 2 ^ 64
  pub ticks : s.numbers.ticks < 65536
  pub delay : s.numbers.delay < 256
  pub error : s.numbers.error < 65536
  pub last : s.numbers.last < 65536
  pub commitment : length s.commitment ≡ 32

-- bytes that begin with a kind and what a message says, and the rest of them
pub record Begins (kind : ℕ) (b : List ℕ) (s : Said) (rest : List ℕ) : Type 0 where
  pub whole : b ≡ said_bytes kind s ++ rest
  pub fits : SaidFits s
