-- Bytes in hexadecimal, one pair of digits at a time.
use Rattle.std.proofs.Common.{◌≡◌, ℕ, ◌+◌, ◌<◌, min, List, [], ◌∷◌, ◌++◌, length, Some, None, Option, Ok, Err, Result, sym, refl, ap, ◌∙◌, append_assoc, append-nil, arith, length-append}
use Rattle.std.proofs.lemmas.List.{nil_from_length}
use Rattle.timing.specs.declared.refusal.Refusal.{Refusal}
use Rattle.timing.specs.declared.refusal.Refusal.TheVariants.{Malformed}
use Rattle.script.proofs.Numbers.{ahead}
use Rattle.orders.specs.Hex.{hex_digit, and_byte, hex_bytes, of_digits, byte_of}

-- a chunk of two digits, or of the one that is left over
pub record Chunk (s pair rest : List ℕ) : Type 0 where
  pub parts : s ≡ pair ++ rest
  pub size : length pair ≡ min 2 (length s)
  pub some : 0 < length s

abbrev next : Option ℕ → Result (List ℕ) Refusal → Result (List ℕ) Refusal
next None r = Err Malformed
next (Some b) (Ok bs) = Ok (b ∷ bs)
next (Some b) (Err e) = Err e

both : (h l : Option ℕ) (r : Result (List ℕ) Refusal) → and_byte h l r ≡ next (of_digits h l) r
both None l r = refl
both (Some h) None r = refl
both (Some h) (Some l) (Ok bs) = refl
both (Some h) (Some l) (Err e) = refl

chunk : (s pair rest : List ℕ) → Chunk s pair rest → hex_bytes s ≡ next (byte_of pair) (hex_bytes rest)
unfolding hex_bytes
chunk s [] rest c = absurd (omega (arith, c.size, c.some))
chunk s (h ∷ []) rest c =
    let whole : length s ≡ 1 + length rest = ap length c.parts ∙ length-append (h ∷ []) rest in
    let none : rest ≡ [] = nil_from_length rest (omega (arith, c.size, whole)) in
    ap hex_bytes (c.parts ∙ ap (λ r. h ∷ r) none)
chunk s (h ∷ l ∷ []) rest c = ap hex_bytes c.parts ∙ both (hex_digit h) (hex_digit l) (hex_bytes rest)
chunk s (h ∷ l ∷ x ∷ r) rest c = absurd (omega (arith, c.size))

step : (xs : List ℕ) (b : ℕ) (r : Result (List ℕ) Refusal) → ahead xs (next (Some b) r) ≡ ahead (xs ++ b ∷ []) r
step xs b (Ok bs) = ap Ok (sym (append_assoc xs (b ∷ []) bs))
step xs b (Err e) = refl

pub byte_more : (xs s pair rest : List ℕ) (b : ℕ) → Chunk s pair rest → Some b ≡ byte_of pair → ahead xs (hex_bytes s) ≡ ahead (xs ++ b ∷ []) (hex_bytes rest)
byte_more xs s pair rest b c e = ap (ahead xs) (chunk s pair rest c ∙ ap (λ o. next o (hex_bytes rest)) (sym e)) ∙ step xs b (hex_bytes rest)

pub byte_bad : (xs s pair rest : List ℕ) → Chunk s pair rest → None ≡ byte_of pair → ahead xs (hex_bytes s) ≡ Err Malformed
byte_bad xs s pair rest c e = ap (ahead xs) (chunk s pair rest c ∙ ap (λ o. next o (hex_bytes rest)) (sym e))

pub none_left : (xs s : List ℕ) → length s ≡ 0 → ahead xs (hex_bytes s) ≡ Ok xs
unfolding hex_bytes
none_left xs s e = rw (nil_from_length s e) (ap Ok (append-nil xs))
