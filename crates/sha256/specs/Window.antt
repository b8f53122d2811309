-- The compression as the code goes through it: the working variables beside the sixteen words of the schedule that come next.
use Rattle.std.specs.Prelude.{◌≡◌, ℕ, List, [], ◌∷◌, ◌++◌, drop}
use Rattle.sha256.specs.declared.Working.{Working}
use Rattle.sha256.specs.Sha256.{next_word, expanded, schedule, rounds}

-- sixteen words of the schedule, one place further on
unfoldable pub slid : List ℕ → List ℕ
slid w = drop 1 w ++ next_word w 0 ∷ []

-- v is what stands before its round, for a block that comes after the hash s
pub record At (block s : List ℕ) (v : Working) : Type 0 where
  pub hash_is : v.hash ≡ rounds v.round (schedule block) s
  pub window_is : v.window ≡ drop v.round (expanded v.round block)
