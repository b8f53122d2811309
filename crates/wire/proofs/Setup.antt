-- Settings that were taken apart.
use Rattle.std.proofs.Common.{◌≡◌, ℕ, ◌+◌, ◌*◌, ◌<◌, true, List, ◌∷◌, length, get_or, take, drop, Ok, sym, refl, ap, ◌∙◌, arith, lit<, length-drop}
use Rattle.std.proofs.lemmas.List.{get_or-take, get_or-drop, drop-drop}
use Rattle.std.proofs.lemmas.Bool.{cond-true, eq-eqb}
use Rattle.timing.specs.Time.{params, in_range}
use Rattle.wire.specs.Bytes.{two_at, eight_at}
use Rattle.wire.specs.Fits.{SetupFits}
use Rattle.wire.specs.Setup.{Setup, setup_in, settings_encoded, settings_answer}
use Rattle.wire.proofs.Eight.{eight_back}
use Rattle.wire.proofs.Reading.{two_back}

-- a part of the input: r is the input from n on, and p the first k of it
at_part : (b r p : List ℕ) (n k : ℕ) → r ≡ drop n b → p ≡ take k r → (i : ℕ) → i < k → get_or p i 0 ≡ get_or b (n + i) 0
at_part b r p n k e f i h = ap (λ (x : List ℕ). get_or x i 0) f ∙ (get_or-take k r i 0 h ∙ (ap (λ (x : List ℕ). get_or x i 0) e ∙ get_or-drop n b i 0))

two_part : (b r p : List ℕ) (n : ℕ) → r ≡ drop n b → p ≡ take 2 r → two_at p 0 ≡ get_or b (n + 0) 0 * 256 + get_or b (n + 1) 0
two_part b r p n e f = let at = at_part b r p n 2 e f in rw (at 0 (lit< tt), at 1 (lit< tt))

date : (b start : List ℕ) → start ≡ take 8 b → eight_at start 0 ≡ eight_at b 0
date b start e =
    let at = at_part b b start 0 8 refl e in
    rw (at 0 (lit< tt), at 1 (lit< tt), at 2 (lit< tt), at 3 (lit< tt), at 4 (lit< tt), at 5 (lit< tt), at 6 (lit< tt), at 7 (lit< tt))

-- the input, taken apart one part behind another: the delay, y, is the first of r2
pub record Apart (b start r1 ticks r2 : List ℕ) (y : ℕ) (r3 error r4 last key : List ℕ) : Type 0 where
  pub start_is : start ≡ take 8 b
  pub from_ticks : r1 ≡ drop 8 b
  pub ticks_is : ticks ≡ take 2 r1
  pub from_delay : r2 ≡ drop 2 r1
  pub delay_is : r2 ≡ y ∷ r3
  pub error_is : error ≡ take 2 r3
  pub from_last : r4 ≡ drop 2 r3
  pub last_is : last ≡ take 2 r4
  pub key_is : key ≡ drop 2 r4
  pub key_long : length key ≡ 32

key_behind : (b start r1 ticks r2 : List ℕ) (y : ℕ) (r3 error r4 last key : List ℕ) → Apart b start r1 ticks r2 y r3 error r4 last key → (r2 ≡ drop 10 b) × ((r3 ≡ drop 11 b) × ((r4 ≡ drop 13 b) × (key ≡ drop 15 b)))
key_behind b start r1 ticks r2 y r3 error r4 last key a =
    let e2 : r2 ≡ drop 10 b = a.from_delay ∙ (ap (drop 2) a.from_ticks ∙ drop-drop 2 8 b) in
    let e3 : r3 ≡ drop 11 b = ap (drop 1) (sym a.delay_is ∙ e2) ∙ drop-drop 1 10 b in
    let e4 : r4 ≡ drop 13 b = a.from_last ∙ (ap (drop 2) e3 ∙ drop-drop 2 11 b) in
    (e2, (e3, (e4, a.key_is ∙ (ap (drop 2) e4 ∙ drop-drop 2 13 b))))

pub setup_long : (b start r1 ticks r2 : List ℕ) (y : ℕ) (r3 error r4 last key : List ℕ) → Apart b start r1 ticks r2 y r3 error r4 last key → length b ≡ 47
setup_long b start r1 ticks r2 y r3 error r4 last key a =
    let e = (key_behind b start r1 ticks r2 y r3 error r4 last key a).1.1.1 in
    omega (arith, length-drop 15 b, ap length e, a.key_long)

-- all of what was read, from its parts
pub setup_is : (b start r1 ticks r2 : List ℕ) (y : ℕ) (r3 error r4 last key : List ℕ) (d t e l : ℕ) → Apart b start r1 ticks r2 y r3 error r4 last key →
    d ≡ eight_at start 0 → t ≡ two_at ticks 0 → e ≡ two_at error 0 → l ≡ two_at last 0 → ◌≡◌ {A = Setup} (record { start = d; numbers = params t y e l; commitment = key }) (setup_in b)
setup_is b start r1 ticks r2 y r3 error r4 last key d t e l a dd tt' ee ll =
    let g = key_behind b start r1 ticks r2 y r3 error r4 last key a in
    let d' : d ≡ eight_at b 0 = dd ∙ date b start a.start_is in
    let t' : t ≡ two_at b 8 = tt' ∙ two_part b r1 ticks 8 a.from_ticks a.ticks_is in
    let y' : y ≡ get_or b 10 0 = ap (λ (x : List ℕ). get_or x 0 0) (sym a.delay_is ∙ g.0) ∙ get_or-drop 10 b 0 0 in
    let e' : e ≡ two_at b 11 = ee ∙ two_part b r3 error 11 g.1.0 a.error_is in
    let l' : l ≡ two_at b 13 = ll ∙ two_part b r4 last 13 g.1.1.0 a.last_is in
    rw (d', t', y', e', l', g.1.1.1)

pub settings_ok : (b : List ℕ) (s : Setup) → length b ≡ 47 → s ≡ setup_in b → in_range s.numbers ≡ true → settings_answer b ≡ Ok s
settings_ok b s l e h = cond-true _ _ _ (eq-eqb (length b) 47 l) ∙ (cond-true _ _ _ (ap (λ x. in_range x.numbers) (sym e) ∙ h) ∙ ap (λ x. Ok x) (sym e))

pub settings_back : (s : Setup) → SetupFits s → in_range s.numbers ≡ true → settings_answer (settings_encoded s) ≡ Ok s
settings_back s f h =
    let n = s.numbers in
    let same : s ≡ setup_in (settings_encoded s) = rw (eight_back s.start f.start, two_back n.ticks, two_back n.error, two_back n.last) in
    settings_ok (settings_encoded s) s (omega (arith, f.commitment)) same h
