-- Bytes as lines, words and decimal numbers.
use Rattle.std.specs.Prelude.{◌≡◌, ℕ, ◌+◌, ◌-◌, ◌*◌, ◌^◌, Bool, cond, not, ◌&&◌, List, [], ◌∷◌, length, drop, filter, Some, None, Ok, Err, Option, Result, ◌==◌, ◌<◌, ◌⊎◌, nat_le, nat_lt, slice_get, slice_index}
use Rattle.std.specs.List.{slice_split, join_with_byte}
use Rattle.timing.specs.declared.refusal.Refusal.{Refusal}
use Rattle.timing.specs.declared.refusal.Refusal.TheVariants.{Malformed}

-- what stands between the separators
unfoldable pub pieces : (separator : ℕ) → List ℕ → List (List ℕ)
pieces s = slice_split (λ b. b == s)

abbrev pub lines_of : List ℕ → List (List ℕ)
lines_of = pieces 10

-- what stands before the first separator and what stands behind it; or all, and nothing, where there is none
abbrev pub FirstPiece : (separator : ℕ) → (s first behind : List ℕ) → Type 0
FirstPiece c s p r = ((pieces c s ≡ p ∷ pieces c r) × (length r < length s)) ⊎ ((pieces c s ≡ s ∷ []) × (p ≡ s) × (r ≡ []))

-- words are separated by spaces (32): the pieces that are not empty
unfoldable pub words : List ℕ → List (List ℕ)
words s = filter (λ w. not (length w == 0)) (pieces 32 s)

-- the pieces of a line from its first word on
unfoldable pub from_word : List (List ℕ) → List (List ℕ)
from_word [] = []
from_word ([] ∷ ps) = from_word ps
from_word ((b ∷ bs) ∷ ps) = (b ∷ bs) ∷ ps

-- the first word of a line
unfoldable pub word_of : List ℕ → Option (List ℕ)
word_of line = slice_get (from_word (pieces 32 line)) 0

-- what stands behind the first word and one space
unfoldable pub rest_of : List ℕ → List ℕ
rest_of line = join_with_byte 32 (drop 1 (from_word (pieces 32 line)))

-- a comment's first word begins with #, 35
abbrev pub is_comment : List ℕ → Bool
is_comment w = slice_index w 0 == 35

abbrev pub is_digit : ℕ → Bool
is_digit b = nat_le 48 b && nat_le b 57

-- a number of 64 bits, read on from n
unfoldable pub digits : (n : ℕ) → List ℕ → Option ℕ
digits n [] = Some n
digits n (b ∷ bs) = cond (is_digit b && nat_lt (n * 10 + (b - 48)) (2 ^ 64)) (digits (n * 10 + (b - 48)) bs) None

-- a word is a number where it has digits alone, at least one, and their value has 64 bits
abbrev pub decimal : List ℕ → Option ℕ
decimal [] = None
decimal (b ∷ bs) = digits 0 (b ∷ bs)

abbrev pub and_number : Option ℕ → Result (List ℕ) Refusal → Result (List ℕ) Refusal
and_number None r = Err Malformed
and_number (Some n) (Ok ns) = Ok (n ∷ ns)
and_number (Some n) (Err e) = Err e

-- every word as a number
unfoldable pub numbers : List (List ℕ) → Result (List ℕ) Refusal
numbers [] = Ok []
numbers (w ∷ ws) = and_number (decimal w) (numbers ws)
