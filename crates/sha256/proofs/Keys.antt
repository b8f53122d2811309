-- HMAC by a key made ready.
use Rattle.std.proofs.Common.{◌≡◌, ℕ, ◌+◌, ◌≤◌, Bool, true, false, cond, leb, List, ◌++◌, length, refl, ap, ◌∙◌, arith, leb-true}
use Rattle.std.proofs.lemmas.List.{length-append, length-replicate, length-map}
use Rattle.sha256.specs.Hmac.{filled, key_block, xor_pad, hmac}
use Rattle.sha256.specs.Sha256.{compress, initial_hash, state_bytes, absorb, blocks, padding, digest}
use Rattle.sha256.proofs.Steps.{digest-block}

filled_length : (bs : List ℕ) → length bs ≤ 64 → length (filled bs) ≡ 64
filled_length bs h = simp (length-append, length-replicate) (omega arith)

pub digest_length : (m : List ℕ) → length (digest m) ≡ 32
unfolding digest state_bytes
digest_length m = refl

pub key_length : (key : List ℕ) → length (key_block key) ≡ 64
unfolding key_block
key_length key =
    let d = digest_length key in
    let P : Bool → Type 0 = λ b. (leb (length key) 64 ≡ b) → length (cond b (filled key) (filled (digest key))) ≡ 64 in
    let all : (b : Bool) → P b = λ b. elim b as P [ true ↦ (λ e. filled_length key (leb-true (length key) 64 e)) | false ↦ (λ e. filled_length (digest key) (omega arith)) ] in
    all (leb (length key) 64) refl

xor_pad-length : (m : ℕ) (key : List ℕ) → length (xor_pad m (key_block key)) ≡ 64
unfolding xor_pad
xor_pad-length m key = rw length-map (key_length key)

pub hmac-is : (key text i o t : List ℕ) → i ≡ compress initial_hash (xor_pad 0x36 (key_block key)) → o ≡ compress initial_hash (xor_pad 0x5c (key_block key))
    → t ≡ state_bytes (absorb (blocks (length text)) (text ++ padding (64 + length text)) i)
    → state_bytes (absorb (blocks (length t)) (t ++ padding (64 + length t)) o) ≡ hmac key text
unfolding hmac
hmac-is key text i o t inner outer is =
    let e = is ∙ digest-block (xor_pad 0x36 (key_block key)) text i (xor_pad-length 0x36 key) inner in
    digest-block (xor_pad 0x5c (key_block key)) t o (xor_pad-length 0x5c key) outer ∙ ap (λ x. digest (xor_pad 0x5c (key_block key) ++ x)) e

pub hmac_length : (key text : List ℕ) → length (hmac key text) ≡ 32
unfolding hmac
hmac_length key text = digest_length _
