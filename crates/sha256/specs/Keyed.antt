-- For which key an HmacKey is ready: it has the hashes after the key's block XOR the inner pad, and XOR the outer pad.
use Rattle.std.specs.Prelude.{◌≡◌, ℕ, List}
use Rattle.sha256.specs.declared.HmacKey.{HmacKey}
use Rattle.sha256.specs.Hmac.{key_block, xor_pad, ipad, opad}
use Rattle.sha256.specs.Sha256.{compress, initial_hash}

pub record Keyed (key : List ℕ) (k : HmacKey) : Type 0 where
  pub inner_is : k.inner ≡ compress initial_hash (xor_pad ipad (key_block key))
  pub outer_is : k.outer ≡ compress initial_hash (xor_pad opad (key_block key))
