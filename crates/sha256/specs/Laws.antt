-- What holds of the padding and of every digest.
use Rattle.std.specs.Prelude.{◌≡◌, ℕ, ◌+◌, ◌-◌, ◌*◌, ◌%◌, ◌^◌, ◌<◌, List, ◌∷◌, ◌++◌, length, replicate}
use Rattle.sha256.specs.Sha256.{padding, blocks, long_bytes, digest}
use Rattle.sha256.specs.Hmac.{key_block, hmac}

pub record Laws : Type 0 where
  -- a message and its padding are whole blocks
  pub whole : (n : ℕ) → n + length (padding n) ≡ 64 * blocks n
  -- below 2 ^ 64 bits the length field is the number of bits, as in RFC 6234
  pub exact : (n : ℕ) → n < 2 ^ 61 → padding n ≡ 128 ∷ replicate ((119 - n % 64) % 64) 0 ++ long_bytes (8 * n)
  pub digest_length : (m : List ℕ) → length (digest m) ≡ 32
  pub key_length : (key : List ℕ) → length (key_block key) ≡ 64
  pub hmac_length : (key text : List ℕ) → length (hmac key text) ≡ 32
