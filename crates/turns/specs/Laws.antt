-- What is promised of the turns.
use Rattle.std.specs.Prelude.{◌≡◌, ℕ, ◌+◌, ◌*◌, ◌<◌, ◌≤◌, cond, ◌&&◌, ◌⊎◌, List, [], ◌∷◌, length, nat_le, nat_lt}
use mathlib.Core.List.{Memᴰ}
use Rattle.turns.specs.declared.Turn.{Turn}
use Rattle.turns.specs.Turns.{disclosed, afterwards, disclosures}

-- Of any two disclosures in a row one is the newest.
abbrev pub TwoInARow : Type 0
TwoInARow = (t : Turn) (m n : ℕ) → (disclosed t m ≡ m) ⊎ (disclosed (afterwards t m) n ≡ n)

-- of any two in a row, of what is disclosed and the newest at each time, one is the newest
abbrev pub OneNewest : (answers asks : List ℕ) → Type 0
OneNewest [] ns = Unit {0}
OneNewest (x ∷ []) ns = Unit {0}
OneNewest (x ∷ (y ∷ xs)) [] = ⊥
OneNewest (x ∷ (y ∷ xs)) (n ∷ []) = ⊥
OneNewest (x ∷ (y ∷ xs)) (n ∷ (m ∷ ns)) = ((x ≡ n) ⊎ (y ≡ m)) × OneNewest (y ∷ xs) (m ∷ ns)

-- In any 32 disclosures in a row each multiple of 1,024 that might be disclosed at each of them is disclosed.
abbrev pub AllInARow : Type 0
AllInARow = (t : Turn) (k : ℕ) (ns : List ℕ) → 0 < k → length ns ≡ 32
    → ((n : ℕ) → Memᴰ n ns → (1024 * k ≤ n) × (n ≤ 16384)) → Memᴰ (1024 * k) (disclosures t ns)

-- the newest key of a receiver with that of interval r, after it heard that of interval j: it works out at most 1,024 steps
abbrev pub learned : (r j : ℕ) → ℕ
learned r j = cond (nat_lt r j && nat_le j (r + 1024)) j r

-- it has the newest key that may be disclosed, after one of these disclosures
abbrev pub Caught : Turn → (r : ℕ) → List ℕ → Type 0
Caught t r [] = ⊥
Caught t r (n ∷ ns) = (learned r (disclosed t n) ≡ n) ⊎ Caught (afterwards t n) (learned r (disclosed t n)) ns

abbrev pub Rising : ℕ → List ℕ → Type 0
Rising r [] = Unit {0}
Rising r (n ∷ ns) = (r ≤ n) × (n ≤ 16384) × Rising n ns

-- However many intervals a receiver missed, it has the newest key again within 62 disclosures in a row.
abbrev pub CatchesUp : Type 0
CatchesUp = (t : Turn) (r : ℕ) (ns : List ℕ) → 62 ≤ length ns → Rising r ns → Caught t r ns
