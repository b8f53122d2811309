-- The parts of a chain, 128 intervals each, and which keys of them are kept. Part b has intervals 128 b + 1 to 128 b + 128, cut at the last.
use Rattle.std.specs.Prelude.{◌≡◌, ℕ, ◌+◌, ◌-◌, ◌*◌, ◌/◌, ◌<◌, min, List, slice_index_or}
use Rattle.keychain.specs.Chain.{key_down, absent_key}
use Rattle.keychain.specs.declared.key.Key.{Key}

-- the key of interval i of the chain whose key of the last interval was drawn
abbrev pub key_at : (last : ℕ) → (drawn : List ℕ) → (interval : ℕ) → List ℕ
key_at last drawn i = key_down (last - i) drawn

-- the bytes of the key at a place
abbrev pub at : List Key → (place : ℕ) → List ℕ
at ks j = (slice_index_or ks j absent_key).bytes

-- the first n places hold the keys from this one down
abbrev pub Descent : (n : ℕ) → (key : List ℕ) → List Key → Type 0
Descent n key ks = (j : ℕ) → j < n → at ks j ≡ key_down j key

-- the part of interval i; past the last interval it is the last part
abbrev pub part_of : (last i : ℕ) → ℕ
part_of last i = (min i last - 1) / 128

-- the last interval of part b
abbrev pub top_of : (last b : ℕ) → ℕ
top_of last b = min (128 * b + 128) last

-- the key that was drawn, among the last keys of the parts
abbrev pub drawn_in : (last : ℕ) → List Key → List ℕ
drawn_in last ends = at ends ((last - 1) / 128)

-- at each place b the last key of part b
abbrev pub EndsAre : (last : ℕ) (drawn : List ℕ) → List Key → Type 0
EndsAre last drawn ends = (b : ℕ) → 128 * b < last → at ends b ≡ key_at last drawn (top_of last b)

-- the keys of a part, from its last down
abbrev pub KeysAre : (last part : ℕ) (drawn : List ℕ) → List Key → Type 0
KeysAre last part drawn keys = (j : ℕ) → 128 * part + j < top_of last part → at keys j ≡ key_at last drawn (top_of last part - j)

-- how many keys of the part before are kept
abbrev pub tail_size : (part delay : ℕ) → ℕ
tail_size part delay = min (delay + 1) (128 * part)

-- the last keys of the part before, from its last down, as many as the delay and one more
abbrev pub TailIs : (last part delay : ℕ) (drawn : List ℕ) → List Key → Type 0
TailIs last part delay drawn tail = (j : ℕ) → j < tail_size part delay → at tail j ≡ key_at last drawn (128 * part - j)
