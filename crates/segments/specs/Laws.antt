-- What is promised of a chain kept in part.
use Rattle.std.specs.Prelude.{◌≡◌, ℕ, ◌+◌, ◌-◌, ◌*◌, ◌<◌, ◌≤◌, min, true, List}
use Rattle.segments.specs.declared.parts.Segments.{Segments}
use Rattle.segments.specs.Parts.{part_of}
use Rattle.segments.specs.Held.{last_of, places_of, held}
use Rattle.segments.specs.Work.{life, times, Rising}

-- It has 265 places for keys.
abbrev pub Few : Type 0
Few = (s : Segments) → places_of s ≡ 265

-- After the chain was made no key is worked out twice, whatever intervals are entered one after the other.
abbrev pub Once : Type 0
Once = (last delay : ℕ) (is : List ℕ) (x : ℕ) → delay ≤ 8 → Rising 1 is → times x (life last delay is) ≤ 1

-- In the part of an interval its key is held, the newest that may be disclosed in it, and those of all multiples of 1,024.
abbrev pub Enough : Type 0
Enough = (s : Segments) (i : ℕ) → 0 < i → s.part ≡ part_of (last_of s) i →
    (held s (min i (last_of s)) ≡ true) ×
    (s.parameters.delay + 1 < i → held s (min (i - (s.parameters.delay + 1)) (last_of s)) ≡ true) ×
    ((k : ℕ) → 0 < k → 1024 * k ≤ last_of s → held s (1024 * k) ≡ true)
