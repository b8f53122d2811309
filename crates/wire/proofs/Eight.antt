-- Numbers of eight bytes, there and back.
use Rattle.std.proofs.Common.{◌≡◌, ℕ, zero, suc, ◌+◌, ◌*◌, ◌/◌, ◌%◌, ◌^◌, ◌<◌, ◌≤◌, List, [], ◌∷◌, length, get_or, drop, sym, refl, ap, ◌∙◌, mod-eq_of_lt, arith, lit<}
use lib.Arith.{digits_div, digits_mod, mod-mul}
use Rattle.std.proofs.lemmas.List.{drop_more}
use Rattle.wire.specs.Bytes.{eight, eight_at}

sum : (x7 x6 x5 x4 x3 x2 x1 x0 r7 r6 r5 r4 r3 r2 r1 t : ℕ) → t ≡ x7 * 256 ^ 7 + r7 → r7 ≡ x6 * 256 ^ 6 + r6 → r6 ≡ x5 * 256 ^ 5 + r5 → r5 ≡ x4 * 256 ^ 4 + r4 → r4 ≡ x3 * 256 ^ 3 + r3 → r3 ≡ x2 * 256 ^ 2 + r2 → r2 ≡ x1 * 256 + x0 →
    x7 * 256 ^ 7 + x6 * 256 ^ 6 + x5 * 256 ^ 5 + x4 * 256 ^ 4 + x3 * 256 ^ 3 + x2 * 256 ^ 2 + x1 * 256 + x0 ≡ t
sum x7 x6 x5 x4 x3 x2 x1 x0 r7 r6 r5 r4 r3 r2 r1 t e7 e6 e5 e4 e3 e2 e1 = omega arith

pub eight_back : (t : ℕ) → t < 2 ^ 64 → eight_at (eight t) 0 ≡ t
eight_back t h =
    let top : t ≡ t % 256 ^ 8 = sym (mod-eq_of_lt h) in
    sum _ _ _ _ _ _ _ _ (t % 256 ^ 7) (t % 256 ^ 6) (t % 256 ^ 5) (t % 256 ^ 4) (t % 256 ^ 3) (t % 256 ^ 2) 0 t
    (top ∙ mod-mul t {m = 256} {c = 256 ^ 7} (lit< tt) (lit< tt)) (mod-mul t {m = 256} {c = 256 ^ 6} (lit< tt) (lit< tt)) (mod-mul t {m = 256} {c = 256 ^ 5} (lit< tt) (lit< tt)) (mod-mul t {m = 256} {c = 256 ^ 4} (lit< tt) (lit< tt))
    (mod-mul t {m = 256} {c = 256 ^ 3} (lit< tt) (lit< tt)) (mod-mul t {m = 256} {c = 256 ^ 2} (lit< tt) (lit< tt)) (mod-mul t {m = 256} {c = 256} (lit< tt) (lit< tt))

byte_at : (n q x r m : ℕ) → n ≡ (q * 256 + x) * m + r → r < m → x < 256 → n / m % 256 ≡ x
byte_at n q x r m e l h = ap (λ (y : ℕ). y / m % 256) e ∙ (ap (λ (y : ℕ). y % 256) (digits_div (q * 256 + x) l) ∙ digits_mod q h)

pub eight_again : (a b c d e f g h : ℕ) → a < 256 → b < 256 → c < 256 → d < 256 → e < 256 → f < 256 → g < 256 → h < 256 →
    eight (a * 256 ^ 7 + b * 256 ^ 6 + c * 256 ^ 5 + d * 256 ^ 4 + e * 256 ^ 3 + f * 256 ^ 2 + g * 256 + h) ≡ a ∷ b ∷ c ∷ d ∷ e ∷ f ∷ g ∷ h ∷ []
eight_again a b c d e f g h la lb lc ld le lf lg lh =
    let n : ℕ = a * 256 ^ 7 + b * 256 ^ 6 + c * 256 ^ 5 + d * 256 ^ 4 + e * 256 ^ 3 + f * 256 ^ 2 + g * 256 + h in
    let xa : n / 256 ^ 7 % 256 ≡ a = byte_at n 0 a (b * 256 ^ 6 + c * 256 ^ 5 + d * 256 ^ 4 + e * 256 ^ 3 + f * 256 ^ 2 + g * 256 + h) (256 ^ 7) (omega arith) (omega arith) la in
    let xb : n / 256 ^ 6 % 256 ≡ b = byte_at n a b (c * 256 ^ 5 + d * 256 ^ 4 + e * 256 ^ 3 + f * 256 ^ 2 + g * 256 + h) (256 ^ 6) (omega arith) (omega arith) lb in
    let xc : n / 256 ^ 5 % 256 ≡ c = byte_at n (a * 256 + b) c (d * 256 ^ 4 + e * 256 ^ 3 + f * 256 ^ 2 + g * 256 + h) (256 ^ 5) (omega arith) (omega arith) lc in
    let xd : n / 256 ^ 4 % 256 ≡ d = byte_at n (a * 256 ^ 2 + b * 256 + c) d (e * 256 ^ 3 + f * 256 ^ 2 + g * 256 + h) (256 ^ 4) (omega arith) (omega arith) ld in
    let xe : n / 256 ^ 3 % 256 ≡ e = byte_at n (a * 256 ^ 3 + b * 256 ^ 2 + c * 256 + d) e (f * 256 ^ 2 + g * 256 + h) (256 ^ 3) (omega arith) (omega arith) le in
    let xf : n / 256 ^ 2 % 256 ≡ f = byte_at n (a * 256 ^ 4 + b * 256 ^ 3 + c * 256 ^ 2 + d * 256 + e) f (g * 256 + h) (256 ^ 2) (omega arith) (omega arith) lf in
    let xg : n / 256 % 256 ≡ g = byte_at n (a * 256 ^ 5 + b * 256 ^ 4 + c * 256 ^ 3 + d * 256 ^ 2 + e * 256 + f) g h 256 (omega arith) lh lg in
    let q : n ≡ (a * 256 ^ 6 + b * 256 ^ 5 + c * 256 ^ 4 + d * 256 ^ 3 + e * 256 ^ 2 + f * 256 + g) * 256 + h = omega arith in
    let xh : n % 256 ≡ h = ap (λ (y : ℕ). y % 256) q ∙ digits_mod (a * 256 ^ 6 + b * 256 ^ 5 + c * 256 ^ 4 + d * 256 ^ 3 + e * 256 ^ 2 + f * 256 + g) lh in
    rw (xa, xb, xc, xd, xe, xf, xg, xh)

-- a list by its first elements
abbrev pub spread : (n i : ℕ) → List ℕ → List ℕ
spread zero i b = drop i b
spread (suc n) i b = get_or b i 0 ∷ spread n (i + 1) b

pub spread_is : (n i : ℕ) (b : List ℕ) → n + i ≤ length b → drop i b ≡ spread n i b
spread_is zero i b h = refl
spread_is (suc n) i b h = drop_more b i 0 (omega arith) ∙ ap (λ (r : List ℕ). get_or b i 0 ∷ r) (spread_is n (i + 1) b (omega arith))
