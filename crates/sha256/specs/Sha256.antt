-- SHA-256 as RFC 6234 defines it, over lists: a word is a number below 2 ^ 32, a byte a number below 256.
use Rattle.std.specs.Prelude.{ℕ, zero, suc, ◌+◌, ◌-◌, ◌*◌, ◌/◌, ◌%◌, ◌^◌, List, [], ◌∷◌, ◌++◌, length, take, drop, replicate, bit_and, bit_or, bit_xor, slice_index, slice_index_or}

-- x turned k places to the right, for 0 < k < 32
abbrev pub rotr : ℕ → ℕ → ℕ
rotr k x = bit_or (x / 2 ^ k) ((x * 2 ^ (32 - k)) % 2 ^ 32)

-- the functions of RFC 6234, 5.1
abbrev pub bsig0 : ℕ → ℕ
bsig0 x = bit_xor (bit_xor (rotr 2 x) (rotr 13 x)) (rotr 22 x)

abbrev pub bsig1 : ℕ → ℕ
bsig1 x = bit_xor (bit_xor (rotr 6 x) (rotr 11 x)) (rotr 25 x)

abbrev pub ssig0 : ℕ → ℕ
ssig0 x = bit_xor (bit_xor (rotr 7 x) (rotr 18 x)) (x / 2 ^ 3)

abbrev pub ssig1 : ℕ → ℕ
ssig1 x = bit_xor (bit_xor (rotr 17 x) (rotr 19 x)) (x / 2 ^ 10)

abbrev pub ch : ℕ → ℕ → ℕ → ℕ
ch x y z = bit_xor (bit_and x y) (bit_and (2 ^ 32 - 1 - x) z)

abbrev pub maj : ℕ → ℕ → ℕ → ℕ
maj x y z = bit_xor (bit_xor (bit_and x y) (bit_and x z)) (bit_and y z)

-- addition of words
infixl 65 ◌⊕◌
abbrev pub ◌⊕◌ : ℕ → ℕ → ℕ
x ⊕ y = (x + y) % 2 ^ 32

-- the 64 constants K of RFC 6234, 5.1
unfoldable pub constants : List ℕ
constants =
    0x428a2f98 ∷ 0x71374491 ∷ 0xb5c0fbcf ∷ 0xe9b5dba5 ∷ 0x3956c25b ∷ 0x59f111f1 ∷ 0x923f82a4 ∷ 0xab1c5ed5
    ∷ 0xd807aa98 ∷ 0x12835b01 ∷ 0x243185be ∷ 0x550c7dc3 ∷ 0x72be5d74 ∷ 0x80deb1fe ∷ 0x9bdc06a7 ∷ 0xc19bf174
    ∷ 0xe49b69c1 ∷ 0xefbe4786 ∷ 0x0fc19dc6 ∷ 0x240ca1cc ∷ 0x2de92c6f ∷ 0x4a7484aa ∷ 0x5cb0a9dc ∷ 0x76f988da
    ∷ 0x983e5152 ∷ 0xa831c66d ∷ 0xb00327c8 ∷ 0xbf597fc7 ∷ 0xc6e00bf3 ∷ 0xd5a79147 ∷ 0x06ca6351 ∷ 0x14292967
    ∷ 0x27b70a85 ∷ 0x2e1b2138 ∷ 0x4d2c6dfc ∷ 0x53380d13 ∷ 0x650a7354 ∷ 0x766a0abb ∷ 0x81c2c92e ∷ 0x92722c85
    ∷ 0xa2bfe8a1 ∷ 0xa81a664b ∷ 0xc24b8b70 ∷ 0xc76c51a3 ∷ 0xd192e819 ∷ 0xd6990624 ∷ 0xf40e3585 ∷ 0x106aa070
    ∷ 0x19a4c116 ∷ 0x1e376c08 ∷ 0x2748774c ∷ 0x34b0bcb5 ∷ 0x391c0cb3 ∷ 0x4ed8aa4a ∷ 0x5b9cca4f ∷ 0x682e6ff3
    ∷ 0x748f82ee ∷ 0x78a5636f ∷ 0x84c87814 ∷ 0x8cc70208 ∷ 0x90befffa ∷ 0xa4506ceb ∷ 0xbef9a3f7 ∷ 0xc67178f2 ∷ []

-- the initial hash value H(0), of RFC 6234, 6.1
unfoldable pub initial_hash : List ℕ
initial_hash =
    0x6a09e667 ∷ 0xbb67ae85 ∷ 0x3c6ef372 ∷ 0xa54ff53a ∷ 0x510e527f ∷ 0x9b05688c ∷ 0x1f83d9ab ∷ 0x5be0cd19 ∷ []

-- the word at place i of a block of bytes, its highest byte first
abbrev pub word_at : List ℕ → ℕ → ℕ
word_at bs i =
    slice_index bs (4 * i) * 16777216 + slice_index bs (4 * i + 1) * 65536 + slice_index bs (4 * i + 2) * 256 + slice_index bs (4 * i + 3)

-- the first n words of a block
unfoldable pub words : ℕ → List ℕ → List ℕ
words zero bs = []
words (suc n) bs = words n bs ++ word_at bs n ∷ []

-- the word 16 places past n, from the words before it
unfoldable pub next_word : List ℕ → ℕ → ℕ
next_word ws n = ((ssig1 (slice_index ws (n + 14)) ⊕ slice_index_or ws (n + 9) 0) ⊕ ssig0 (slice_index ws (n + 1))) ⊕ slice_index_or ws n 0

-- n words more than the sixteen of the block
unfoldable pub expanded : ℕ → List ℕ → List ℕ
expanded zero bs = words 16 bs
expanded (suc n) bs = let ws = expanded n bs in ws ++ next_word ws n ∷ []

-- the message schedule W of a block of 64 bytes
unfoldable pub schedule : List ℕ → List ℕ
schedule bs = expanded 48 bs

-- one round on the eight working variables, with a constant and a word of the schedule
unfoldable pub step : List ℕ → ℕ → ℕ → List ℕ
step s k w =
    let a = slice_index_or s 0 0 in
    let e = slice_index_or s 4 0 in
    let t1 = (((slice_index_or s 7 0 ⊕ bsig1 e) ⊕ ch e (slice_index s 5) (slice_index s 6)) ⊕ k) ⊕ w in
    let t2 = bsig0 a ⊕ maj a (slice_index s 1) (slice_index s 2) in
    (t1 ⊕ t2) ∷ a ∷ slice_index s 1 ∷ slice_index s 2 ∷ (slice_index_or s 3 0 ⊕ t1) ∷ e ∷ slice_index s 5 ∷ slice_index s 6 ∷ []

-- the first n rounds
unfoldable pub rounds : ℕ → List ℕ → List ℕ → List ℕ
rounds zero ws s = s
rounds (suc n) ws s = step (rounds n ws s) (slice_index constants n) (slice_index ws n)

-- the words of two hashes added, place by place
unfoldable pub sums : List ℕ → List ℕ → List ℕ
sums s t =
    (slice_index_or s 0 0 ⊕ slice_index_or t 0 0) ∷ (slice_index_or s 1 0 ⊕ slice_index_or t 1 0) ∷ (slice_index_or s 2 0 ⊕ slice_index_or t 2 0) ∷ (slice_index_or s 3 0 ⊕ slice_index_or t 3 0)
    ∷ (slice_index_or s 4 0 ⊕ slice_index_or t 4 0) ∷ (slice_index_or s 5 0 ⊕ slice_index_or t 5 0) ∷ (slice_index_or s 6 0 ⊕ slice_index_or t 6 0) ∷ (slice_index_or s 7 0 ⊕ slice_index_or t 7 0) ∷ []

-- the hash s after one more block of 64 bytes
unfoldable pub compress : List ℕ → List ℕ → List ℕ
compress s block = sums s (rounds 64 (schedule block) s)

-- the hash s after n more blocks, the first n of bs
unfoldable pub absorb : ℕ → List ℕ → List ℕ → List ℕ
absorb zero bs s = s
absorb (suc n) bs s = absorb n (drop 64 bs) (compress s (take 64 bs))

-- the eight bytes of a number below 2 ^ 64, the highest first
abbrev pub long_bytes : ℕ → List ℕ
long_bytes x =
    x / 72057594037927936 % 256 ∷ x / 281474976710656 % 256 ∷ x / 1099511627776 % 256 ∷ x / 4294967296 % 256
    ∷ x / 16777216 % 256 ∷ x / 65536 % 256 ∷ x / 256 % 256 ∷ x % 256 ∷ []

-- what follows a message of n bytes: a bit 1, as few bits 0 as fill the last block, and the number of bits in 64 bits.
-- RFC 6234 defines nothing for messages of 2 ^ 64 bits and more: here their length field has the low 64 bits of that number.
unfoldable pub padding : ℕ → List ℕ
padding n = 128 ∷ replicate ((119 - n % 64) % 64) 0 ++ long_bytes (8 * n % 2 ^ 64)

-- the four bytes of a word, the highest first
abbrev pub word_bytes : ℕ → List ℕ
word_bytes x = x / 16777216 % 256 ∷ x / 65536 % 256 ∷ x / 256 % 256 ∷ x % 256 ∷ []

-- the bytes of a hash of eight words
unfoldable pub state_bytes : List ℕ → List ℕ
state_bytes s =
    word_bytes (slice_index s 0) ++ (word_bytes (slice_index s 1) ++ (word_bytes (slice_index s 2) ++ (word_bytes (slice_index s 3)
    ++ (word_bytes (slice_index s 4) ++ (word_bytes (slice_index s 5) ++ (word_bytes (slice_index s 6) ++ word_bytes (slice_index s 7)))))))

-- the blocks of a message of n bytes with its padding
abbrev pub blocks : ℕ → ℕ
blocks n = (n + 72) / 64

-- the SHA-256 digest of a message of bytes
unfoldable pub digest : List ℕ → List ℕ
digest m = state_bytes (absorb (blocks (length m)) (m ++ padding (length m)) initial_hash)

-- xs with bs written over it from place i on
abbrev pub written : ℕ → List ℕ → List ℕ → List ℕ
written i bs xs = take i xs ++ (bs ++ drop (i + length bs) xs)
