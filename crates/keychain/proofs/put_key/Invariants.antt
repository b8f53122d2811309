use Rattle.std.proofs.Common.{◌≡◌, ℕ, ◌<◌, get_or}
use Rattle.keychain.specs.Chain.{absent_key}
use Rattle.keychain.proofs.put_key.Given as goal

-- the places so far that want the key have it, and all others what they had
abbrev pub invariant-loop-i : goal.invariant-loop-i
invariant-loop-i l = record {
  put : (i : ℕ) → i < l.i → get_or l.wanted i 0 ≡ l.before → get_or l.keys i absent_key ≡ l.key;
  left : (i : ℕ) → (i < l.i → get_or l.wanted i 0 ≡ l.before → ⊥) → get_or l.keys i absent_key ≡ get_or l.initial.keys i absent_key;
}
