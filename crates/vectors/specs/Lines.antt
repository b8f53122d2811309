-- The lines of a vector file, as bytes.
use Rattle.std.specs.Prelude.{ℕ, Bool, true, List, [], ◌∷◌, ◌==◌}

-- whether a line holds no vector: it is empty, or begins with '#'
abbrev pub no_vector : List ℕ → Bool
no_vector [] = true
no_vector (b ∷ rest) = b == 35
