use Rattle.std.proofs.Common.{◌≡◌, ℕ, ◌<◌, zero, suc, List, [], ◌∷◌, map, length, get_or, Some, None, arith, rules}
use Rattle.vectors.specs.Hex.{byte_value}
use Rattle.vectors.proofs.hex.decode.Goals as goal

-- a pair that is not two digits
none_at : (pairs : List (List ℕ)) (bytes : List ℕ) (i : ℕ) → i < length pairs → byte_value (get_or pairs i []) ≡ None → map Some bytes ≡ map byte_value pairs → ⊥
none_at [] bytes i below none e = omega arith
none_at (p ∷ ps) [] i below none e = cc
none_at (p ∷ ps) (b ∷ bs) zero below none e = cc
none_at (p ∷ ps) (b ∷ bs) (suc i) below none e = none_at ps bs i (omega arith) none (cc)

pub returns-in_err-ok_or-clause-refused : goal.returns-in_err-ok_or-clause-refused
returns-in_err-ok_or-clause-refused c = λ e bytes s.
    let h : byte_value (get_or c.as_chunks.result.0.now c.loop-high.high-index []) ≡ None = search rules in
    let m : map Some bytes ≡ map byte_value c.as_chunks.result.0.now = cc in
    none_at _ bytes c.loop-high.high-index (omega arith) h m
