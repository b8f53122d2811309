-- The random test of RFC 6234.
use Rattle.std.specs.Prelude.{ℕ, zero, suc, List, [], ◌∷◌}
use Rattle.std.specs.List.{flat_map}
use Rattle.sha256.specs.Sha256.{digest}

-- the last of n digests, each of the three before it joined; a, b and c are the three before the first
unfoldable pub chained : ℕ → List ℕ → List ℕ → List ℕ → List ℕ
chained zero a b c = c
chained (suc n) a b c = chained n b c (digest (flat_map (λ x. x) (a ∷ b ∷ c ∷ [])))
