-- The model's key chain and tags with HMAC-SHA-256 in place.
use Rattle.std.specs.Prelude.{◌≡◌, ℕ, ◌+◌, ◌-◌, ◌<◌, cond, List, [], ◌∷◌, replicate, Ok, Err, Result, nat_le, nat_lt, slice_index, slice_index_or}
use Rattle.sha256.specs.Hmac.{hmac}
use Rattle.timing.specs.Time.{Params}
use Rattle.timing.specs.declared.refusal.Refusal.{Refusal}
use Rattle.timing.specs.declared.refusal.Refusal.TheVariants.{KeyNotAfter, KeyTooFar}
use Rattle.model.specs.Term.{Bytes, val}
use Rattle.model.specs.Receiver.{Said, Outcome, taken, refused, message_bytes, walked, tag_bytes}
use Rattle.model.specs.Run.{key_term, tag_of}
use Rattle.keychain.specs.declared.key.Key.{Key}

-- the key of the interval before
abbrev pub stepped : List ℕ → List ℕ
stepped k = hmac k (1 ∷ [])

-- the key so many intervals before
abbrev pub key_down : ℕ → List ℕ → List ℕ
key_down n k = walked hmac n k

abbrev pub tagged : (key text : List ℕ) → List ℕ
tagged k t = tag_bytes hmac k t

-- how many intervals after the newest key's one the interval lies: so many keys are worked out
abbrev pub ahead : (interval newest : ℕ) → Result ℕ Refusal
ahead j n = cond (nat_le j n) (Err KeyNotAfter) (cond (nat_lt (n + 1024) j) (Err KeyTooFar) (Ok (j - n)))

-- what a walk's result is called in the model
abbrev pub walk_outcome_of : Result Unit Refusal → Outcome
walk_outcome_of (Ok u) = taken
walk_outcome_of (Err e) = refused e

abbrev pub zeros : List ℕ
zeros = replicate 32 0

abbrev pub zero_key : Key
zero_key = record { bytes = zeros }

-- what is read past the end of a list of keys
abbrev pub absent_key : Key
absent_key = record { bytes = [] }

-- of n keys worked out from this one, at each place the one that it wants, so many intervals before; zeros where it wants none of them
abbrev pub Collected : (n : ℕ) → (key : List ℕ) → (wanted : List ℕ) → List Key → Type 0
Collected n k wanted keys = (i : ℕ) → i < 64 → (slice_index_or keys i absent_key).bytes ≡ cond (nat_lt (slice_index wanted i) n) (key_down (slice_index wanted i) k) zeros

-- a chain by its last key, with HMAC-SHA-256
abbrev pub drawing : (last : List ℕ) → Bytes
drawing d = record { mac = hmac; drawn = λ c. d }

-- the bytes of the model's key of interval i are the chain's key i, and those of its tag the tag
pub record TermsAre (p : Params) (d : List ℕ) : Type 0 where
  pub key_is : (i : ℕ) → val (drawing d) (key_term p i) ≡ key_down (p.last - i) d
  pub tag_is : (s : Said) → val (drawing d) (tag_of p s) ≡ tagged (key_down (p.last - s.interval) d) (message_bytes s)

abbrev pub ChainTerms : Type 0
ChainTerms = (p : Params) (d : List ℕ) → TermsAre p d
