-- MAJ and CH by fewer operations than RFC 6234 writes them with: bit by bit.
use Rattle.std.proofs.Common.{◌≡◌, ℕ, zero, suc, ◌-◌, ◌/◌, ◌%◌, ◌^◌, ◌<◌, refl, arith}
use native.Mathlib.Nat.{pow-succ'}
use lib.Bits.{bit_and, bit_xor}
use Rattle.std.proofs.lemmas.Nat.{xor_shr, and_shr, xor_mod, and_mod}
use Rattle.sha256.specs.Sha256.{maj}

abbrev quick : ℕ → ℕ → ℕ → ℕ
quick x y z = bit_xor (bit_and (bit_xor x y) (bit_xor y z)) y

half_xor : (a b : ℕ) → bit_xor a b / 2 ≡ bit_xor (a / 2) (b / 2)
half_xor a b = xor_shr a b 1

half_and : (a b : ℕ) → bit_and a b / 2 ≡ bit_and (a / 2) (b / 2)
half_and a b = and_shr a b 1

low_xor : (a b : ℕ) → bit_xor a b % 2 ≡ bit_xor (a % 2) (b % 2)
low_xor a b = xor_mod a b 1

low_and : (a b : ℕ) → bit_and a b % 2 ≡ bit_and (a % 2) (b % 2)
low_and a b = and_mod a b 1

above {ℓ} : {A : Type ℓ} {x : ℕ} → suc (suc x) < 2 → A
above h = let z : ⊥ = omega arith in elim z [ ]

digit : (x y z : ℕ) → x < 2 → y < 2 → z < 2 → quick x y z ≡ maj x y z
digit zero zero zero hx hy hz = refl
digit zero zero (suc zero) hx hy hz = refl
digit zero (suc zero) zero hx hy hz = refl
digit zero (suc zero) (suc zero) hx hy hz = refl
digit (suc zero) zero zero hx hy hz = refl
digit (suc zero) zero (suc zero) hx hy hz = refl
digit (suc zero) (suc zero) zero hx hy hz = refl
digit (suc zero) (suc zero) (suc zero) hx hy hz = refl
digit zero zero (suc (suc z)) hx hy hz = above hz
digit zero (suc zero) (suc (suc z)) hx hy hz = above hz
digit (suc zero) zero (suc (suc z)) hx hy hz = above hz
digit (suc zero) (suc zero) (suc (suc z)) hx hy hz = above hz
digit zero (suc (suc y)) z hx hy hz = above hy
digit (suc zero) (suc (suc y)) z hx hy hz = above hy
digit (suc (suc x)) y z hx hy hz = above hx

by_digits : (a b : ℕ) → a / 2 ≡ b / 2 → a % 2 ≡ b % 2 → a ≡ b
by_digits a b hi lo = omega arith

pub quick_majority : (k x y z : ℕ) → x < 2 ^ k → y < 2 ^ k → z < 2 ^ k → quick x y z ≡ maj x y z
quick_majority zero x y z hx hy hz =
    let ex : x ≡ 0 = omega arith in
    let ey : y ≡ 0 = omega arith in
    rw (ex, ey)
quick_majority (suc k) x y z hx hy hz =
    let p = pow-succ' 2 k in
    let ih = quick_majority k (x / 2) (y / 2) (z / 2) (omega arith) (omega arith) (omega arith) in
    let d = digit (x % 2) (y % 2) (z % 2) (omega arith) (omega arith) (omega arith) in
    by_digits (quick x y z) (maj x y z) (simp (half_xor, half_and) ih) (simp (low_xor, low_and) d)

abbrev quick_ch : ℕ → ℕ → ℕ → ℕ
quick_ch x y z = bit_xor (bit_and (bit_xor y z) x) z

-- CH on words of k bits
abbrev ch_of : ℕ → ℕ → ℕ → ℕ → ℕ
ch_of k x y z = bit_xor (bit_and x y) (bit_and (2 ^ k - 1 - x) z)

digit_ch : (x y z : ℕ) → x < 2 → y < 2 → z < 2 → quick_ch x y z ≡ bit_xor (bit_and x y) (bit_and (1 - x) z)
digit_ch zero zero zero hx hy hz = refl
digit_ch zero zero (suc zero) hx hy hz = refl
digit_ch zero (suc zero) zero hx hy hz = refl
digit_ch zero (suc zero) (suc zero) hx hy hz = refl
digit_ch (suc zero) zero zero hx hy hz = refl
digit_ch (suc zero) zero (suc zero) hx hy hz = refl
digit_ch (suc zero) (suc zero) zero hx hy hz = refl
digit_ch (suc zero) (suc zero) (suc zero) hx hy hz = refl
digit_ch zero zero (suc (suc z)) hx hy hz = above hz
digit_ch zero (suc zero) (suc (suc z)) hx hy hz = above hz
digit_ch (suc zero) zero (suc (suc z)) hx hy hz = above hz
digit_ch (suc zero) (suc zero) (suc (suc z)) hx hy hz = above hz
digit_ch zero (suc (suc y)) z hx hy hz = above hy
digit_ch (suc zero) (suc (suc y)) z hx hy hz = above hy
digit_ch (suc (suc x)) y z hx hy hz = above hx

pub quick_choose : (k x y z : ℕ) → x < 2 ^ k → y < 2 ^ k → z < 2 ^ k → quick_ch x y z ≡ ch_of k x y z
quick_choose zero x y z hx hy hz =
    let ex : x ≡ 0 = omega arith in
    let ey : y ≡ 0 = omega arith in
    let ez : z ≡ 0 = omega arith in
    rw (ex, ey, ez)
quick_choose (suc k) x y z hx hy hz =
    let p = pow-succ' 2 k in
    let e : (2 ^ suc k - 1 - x) / 2 ≡ 2 ^ k - 1 - x / 2 = omega arith in
    let f : (2 ^ suc k - 1 - x) % 2 ≡ 1 - x % 2 = omega arith in
    let ih = quick_choose k (x / 2) (y / 2) (z / 2) (omega arith) (omega arith) (omega arith) in
    let d = digit_ch (x % 2) (y % 2) (z % 2) (omega arith) (omega arith) (omega arith) in
    by_digits (quick_ch x y z) (ch_of (suc k) x y z) (simp (half_xor, half_and, e) ih) (simp (low_xor, low_and, f) d)
