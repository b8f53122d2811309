-- Hexadecimal digits, as the codes of their characters.
use Rattle.std.specs.Prelude.{◌≡◌, ℕ, ◌+◌, ◌-◌, ◌*◌, ◌/◌, cond, List, [], ◌∷◌, map, length, Some, None, Option, nat_le}
use Rattle.std.specs.Simd.{first_chunks}

-- x where a ≤ b ≤ z, else y
abbrev pub within : ℕ → ℕ → ℕ → Option ℕ → Option ℕ → Option ℕ
within a z b x y = cond (nat_le a b) (cond (nat_le b z) x y) y

-- '0' to '9' and 'a' to 'f'
abbrev pub hex_value : ℕ → Option ℕ
hex_value b = within 48 57 b (Some (b - 48)) (within 97 102 b (Some (b - 87)) None)

-- two digits' byte
abbrev pub pair_value : Option ℕ → Option ℕ → Option ℕ
pair_value (Some high) (Some low) = Some (16 * high + low)
pair_value (Some high) None = None
pair_value None low = None

-- the byte that a pair of characters spells, if both are digits
abbrev pub byte_value : List ℕ → Option ℕ
byte_value [] = None
byte_value (high ∷ []) = None
byte_value (high ∷ low ∷ []) = pair_value (hex_value high) (hex_value low)
byte_value (high ∷ low ∷ more ∷ rest) = None

-- a text spells bytes, two digits each
abbrev pub Spells : (text : List ℕ) → (bytes : List ℕ) → Type 0
Spells text bytes = (length text ≡ 2 * length bytes) × (map Some bytes ≡ map byte_value (first_chunks 2 (length text / 2) text))
