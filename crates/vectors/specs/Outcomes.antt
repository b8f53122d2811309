-- What vectors come to.
use Rattle.std.specs.Prelude.{◌≡◌, ℕ, List, length, take, Decides}
use Rattle.sha256.specs.Hmac.{hmac}
use Rattle.vectors.specs.Hex.{Spells}
use Rattle.vectors.specs.declared.vector.Outcome.{Outcome}

-- the words of a key and a text, and the published front of their HMAC, came to o
abbrev pub IsHmacOutcome : (key : List ℕ) → (text : List ℕ) → (published : List ℕ) → Outcome → Type 0
IsHmacOutcome key text published o =
    (k : List ℕ) × (t : List ℕ) × Spells key k × Spells text t × (o.length ≡ length t) × Decides o.agrees (take (length published) (hmac k t) ≡ published)
