-- One more digest of the random test, counted down.
use Rattle.std.proofs.Common.{◌≡◌, ℕ, suc, ◌+◌, ◌-◌, ◌<◌, List, [], ◌∷◌, arith}
use Rattle.std.specs.List.{flat_map}
use Rattle.sha256.specs.Sha256.{digest}
use Rattle.vectors.specs.Chain.{chained}

pub chained_more : (n i : ℕ) (a b c all : List ℕ) → i < n
    → chained (n - i) a b c ≡ all → chained (n - (i + 1)) b c (digest (flat_map (λ x. x) (a ∷ b ∷ c ∷ []))) ≡ all
unfolding chained
chained_more n i a b c all below inv = let e : n - i ≡ suc (n - (i + 1)) = omega arith in rw e at inv

pub chained_none : (n i : ℕ) (a b c all : List ℕ) → i ≡ n → chained (n - i) a b c ≡ all → c ≡ all
unfolding chained
chained_none n i a b c all e inv = let z : n - i ≡ 0 = omega arith in rw z at inv
