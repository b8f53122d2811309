-- Bytes in hexadecimal.
use Rattle.std.specs.Prelude.{ℕ, ◌+◌, ◌-◌, ◌*◌, cond, ◌&&◌, List, [], ◌∷◌, Some, None, Ok, Err, Option, Result, nat_le}
use Rattle.timing.specs.declared.refusal.Refusal.{Refusal}
use Rattle.timing.specs.declared.refusal.Refusal.TheVariants.{Malformed}

-- 0 to 9 are 48 to 57, a to f 97 to 102, A to F 65 to 70
abbrev pub hex_digit : ℕ → Option ℕ
hex_digit b =
    cond (nat_le 48 b && nat_le b 57) (Some (b - 48))
    (cond (nat_le 97 b && nat_le b 102) (Some (b - 97 + 10))
    (cond (nat_le 65 b && nat_le b 70) (Some (b - 65 + 10))
    None))

-- a byte of two digits, before those to come
abbrev pub and_byte : (high low : Option ℕ) → Result (List ℕ) Refusal → Result (List ℕ) Refusal
and_byte None l r = Err Malformed
and_byte (Some h) None r = Err Malformed
and_byte (Some h) (Some l) (Ok bs) = Ok ((h * 16 + l) ∷ bs)
and_byte (Some h) (Some l) (Err e) = Err e

-- two digits a byte
unfoldable pub hex_bytes : List ℕ → Result (List ℕ) Refusal
hex_bytes [] = Ok []
hex_bytes (h ∷ []) = Err Malformed
hex_bytes (h ∷ l ∷ r) = and_byte (hex_digit h) (hex_digit l) (hex_bytes r)

abbrev pub of_digits : (high low : Option ℕ) → Option ℕ
of_digits None l = None
of_digits (Some h) None = None
of_digits (Some h) (Some l) = Some (h * 16 + l)

-- the byte of two digits alone
abbrev pub byte_of : (pair : List ℕ) → Option ℕ
byte_of [] = None
byte_of (h ∷ []) = None
byte_of (h ∷ l ∷ []) = of_digits (hex_digit h) (hex_digit l)
byte_of (h ∷ l ∷ x ∷ r) = None
