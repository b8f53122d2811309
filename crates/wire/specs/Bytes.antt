-- Numbers as bytes, the high byte first, and memory that was written into.
use Rattle.std.specs.Prelude.{ℕ, ◌+◌, ◌*◌, ◌/◌, ◌%◌, ◌^◌, List, [], ◌∷◌, ◌++◌, length, drop, slice_index}

abbrev pub two : ℕ → List ℕ
two n = (n / 256) ∷ (n % 256) ∷ []

-- the two bytes at a place as a number
abbrev pub two_at : List ℕ → (place : ℕ) → ℕ
two_at b i = slice_index b i * 256 + slice_index b (i + 1)

abbrev pub eight : ℕ → List ℕ
eight n =
    (n / 256 ^ 7 % 256) ∷ (n / 256 ^ 6 % 256) ∷ (n / 256 ^ 5 % 256) ∷ (n / 256 ^ 4 % 256) ∷ (n / 256 ^ 3 % 256) ∷ (n / 256 ^ 2 % 256) ∷ (n / 256 % 256) ∷ (n % 256) ∷ []

abbrev pub eight_at : List ℕ → (place : ℕ) → ℕ
eight_at b i =
    slice_index b i * 256 ^ 7 + slice_index b (i + 1) * 256 ^ 6 + slice_index b (i + 2) * 256 ^ 5 + slice_index b (i + 3) * 256 ^ 4 + slice_index b (i + 4) * 256 ^ 3 + slice_index b (i + 5) * 256 ^ 2 + slice_index b (i + 6) * 256 + slice_index b (i + 7)

-- memory whose first bytes are these, the others as they were
abbrev pub over : (written memory : List ℕ) → List ℕ
over w m = w ++ drop (length w) m
