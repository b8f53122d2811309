-- Published vectors: TEST1 and TEST2_1 of RFC 6234, and the test cases 2 and 6 of RFC 4231.
use Rattle.std.specs.Prelude.{◌≡◌, [], ◌∷◌, replicate, codes}
use Rattle.sha256.specs.Sha256.{digest}
use Rattle.sha256.specs.Hmac.{hmac}

pub record Published : Type 0 where
  pub abc : digest (codes "abc") ≡ 186 ∷ 120 ∷ 22 ∷ 191 ∷ 143 ∷ 1 ∷ 207 ∷ 234 ∷ 65 ∷ 65 ∷ 64 ∷ 222 ∷ 93 ∷ 174 ∷ 34 ∷ 35 ∷ 176 ∷ 3 ∷ 97 ∷ 163 ∷ 150 ∷ 23 ∷ 122 ∷ 156 ∷ 180 ∷ 16 ∷ 255 ∷ 97 ∷ 242 ∷ 0 ∷ 21 ∷ 173 ∷ []
  pub jefe : hmac (codes "Jefe") (codes "what do ya want for nothing?") ≡ 91 ∷ 220 ∷ 193 ∷ 70 ∷ 191 ∷ 96 ∷ 117 ∷ 78 ∷ 106 ∷ 4 ∷ 36 ∷ 38 ∷ 8 ∷ 149 ∷ 117 ∷ 199 ∷ 90 ∷ 0 ∷ 63 ∷ 8 ∷ 157 ∷ 39 ∷ 57 ∷ 131 ∷ 157 ∷ 236 ∷ 88 ∷ 185 ∷ 100 ∷ 236 ∷ 56 ∷ 67 ∷ []
  pub two_blocks : digest (codes "abcdbcdecdefdefgefghfghighijhijkijkljklmklmnlmnomnopnopq") ≡ 36 ∷ 141 ∷ 106 ∷ 97 ∷ 210 ∷ 6 ∷ 56 ∷ 184 ∷ 229 ∷ 192 ∷ 38 ∷ 147 ∷ 12 ∷ 62 ∷ 96 ∷ 57 ∷ 163 ∷ 60 ∷ 228 ∷ 89 ∷ 100 ∷ 255 ∷ 33 ∷ 103 ∷ 246 ∷ 236 ∷ 237 ∷ 212 ∷ 25 ∷ 219 ∷ 6 ∷ 193 ∷ []
  pub long_key : hmac (replicate 131 0xaa) (codes "Test Using Larger Than Block-Size Key - Hash Key First") ≡ 96 ∷ 228 ∷ 49 ∷ 89 ∷ 30 ∷ 224 ∷ 182 ∷ 127 ∷ 13 ∷ 138 ∷ 38 ∷ 170 ∷ 203 ∷ 245 ∷ 183 ∷ 127 ∷ 142 ∷ 11 ∷ 198 ∷ 33 ∷ 55 ∷ 40 ∷ 197 ∷ 20 ∷ 5 ∷ 70 ∷ 4 ∷ 15 ∷ 14 ∷ 227 ∷ 127 ∷ 84 ∷ []
