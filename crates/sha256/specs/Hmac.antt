-- HMAC-SHA-256, of RFC 2104 and RFC 6234.
use Rattle.std.specs.Prelude.{ℕ, ◌-◌, cond, List, ◌++◌, map, length, replicate, bit_xor, nat_le}
use Rattle.sha256.specs.Sha256.{digest}

-- bs with zeros up to 64 bytes
abbrev pub filled : List ℕ → List ℕ
filled bs = bs ++ replicate (64 - length bs) 0

-- the key as a block of 64 bytes: a longer key goes by its digest
unfoldable pub key_block : List ℕ → List ℕ
key_block key = cond (nat_le (length key) 64) (filled key) (filled (digest key))

-- the inner and the outer pad: a byte, 64 times
abbrev pub ipad : ℕ
ipad = 0x36

abbrev pub opad : ℕ
opad = 0x5c

-- each byte of a block XOR the pad
unfoldable pub xor_pad : ℕ → List ℕ → List ℕ
xor_pad pad bs = map (λ x. bit_xor x pad) bs

-- the HMAC-SHA-256 of a text under a key, each of any length
unfoldable pub hmac : List ℕ → List ℕ → List ℕ
hmac key text = digest (xor_pad opad (key_block key) ++ digest (xor_pad ipad (key_block key) ++ text))
