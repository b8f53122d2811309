-- What is held of a chain.
use Rattle.std.specs.Prelude.{◌≡◌, ℕ, ◌+◌, ◌*◌, ◌%◌, Bool, cond, ◌&&◌, ◌||◌, List, length, Some, None, Option, ◌==◌, nat_le, nat_lt}
use Rattle.timing.specs.declared.parameters.Parameters.{Parameters}
use Rattle.keychain.specs.declared.key.Key.{Key}
use Rattle.segments.specs.declared.parts.Segments.{Segments}
use Rattle.segments.specs.Parts.{drawn_in, key_at, top_of}

abbrev pub last_of : Segments → ℕ
last_of s = s.parameters.last

abbrev pub drawn_of : Segments → List ℕ
drawn_of s = drawn_in (last_of s) s.ends

-- the same chain in another part
pub record Same (a b : Segments) : Type 0 where
  pub parameters_same : a.parameters ≡ b.parameters
  pub drawn_same : drawn_of a ≡ drawn_of b

-- the chain of these parameters from the key that was drawn, at its first part
pub record Made (p : Parameters) (drawn : List ℕ) (s : Segments) : Type 0 where
  pub parameters_are : s.parameters ≡ p
  pub drawn_is : drawn_of s ≡ drawn
  pub part_is : s.part ≡ 0

-- the places for keys
abbrev pub places_of : Segments → ℕ
places_of s = length s.ends + length s.keys + length s.tail

-- the keys that are held: of the part, of the ends of parts and of the last interval, and the last ones of the part before; key 0 isn't
abbrev pub in_part : Segments → ℕ → Bool
in_part s i = nat_lt (128 * s.part) i && nat_le i (top_of (last_of s) s.part)

abbrev pub in_tail : Segments → ℕ → Bool
in_tail s i = nat_le i (128 * s.part) && nat_le (128 * s.part) (s.parameters.delay + i)

abbrev pub held : Segments → ℕ → Bool
held s i = (nat_lt 0 i && nat_le i (last_of s)) && (in_part s i || (i % 128 == 0 || (i == last_of s || in_tail s i)))

-- the key of an interval, where it is held
abbrev pub key_of : Segments → ℕ → Option (List ℕ)
key_of s i = cond (held s i) (Some (key_at (last_of s) (drawn_of s) i)) None

-- the bytes of a key that is given out
abbrev pub bytes_of : Option Key → Option (List ℕ)
bytes_of (Some k) = Some k.bytes
bytes_of None = None
