use Rattle.std.proofs.Common.{◌≡◌, List, ℕ, ◌∷◌, length, take, drop, ◌∙◌, rules}
use Rattle.wire.proofs.Setup.{Apart, setup_is, setup_long}
use Rattle.wire.proofs.settings.parts.Goals as goal

pub returns : goal.returns
returns c =
    let b : List ℕ = c.args.b.now in
    let start : List ℕ = c.in_ok-start.start.now in
    let r1 : List ℕ = c.in_ok-start.rest.now in
    let ticks : List ℕ = c.in_ok-ticks.ticks.now in
    let r2 : List ℕ = c.in_ok-ticks.rest.now in
    let y : ℕ = c.in_ok-delay.delay.now in
    let r3 : List ℕ = c.in_ok-delay.rest.now in
    let error : List ℕ = c.in_ok-error.error.now in
    let r4 : List ℕ = c.in_ok-error.rest.now in
    let last : List ℕ = c.in_ok-last.last.now in
    let r5 : List ℕ = c.in_ok-last.rest.now in
    let key : List ℕ = c.in_ok-commitment.commitment in
    let s1 : (start ≡ take 8 b) × (r1 ≡ drop 8 b) = let s = rw c.in_ok-start.ensures.ok_part at c.split_first_chunk.ensures.cases in (s.0, s.1) in
    let s2 : (ticks ≡ take 2 r1) × (r2 ≡ drop 2 r1) = let s = rw c.in_ok-ticks.ensures.ok_part at c.split_first_chunk-2.ensures.cases in (s.0, s.1) in
    let s3 : r2 ≡ y ∷ r3 = let s = rw c.in_ok-delay.ensures.ok_part at c.split_first.ensures.cases in s.0 in
    let s4 : (error ≡ take 2 r3) × (r4 ≡ drop 2 r3) = let s = rw c.in_ok-error.ensures.ok_part at c.split_first_chunk-3.ensures.cases in (s.0, s.1) in
    let s5 : (last ≡ take 2 r4) × (r5 ≡ drop 2 r4) = let s = rw c.in_ok-last.ensures.ok_part at c.split_first_chunk-4.ensures.cases in (s.0, s.1) in
    let k : (key ≡ r5) × (length key ≡ 32) = search rules in
    let a : Apart b start r1 ticks r2 y r3 error r4 last key =
    record { start_is = s1.0; from_ticks = s1.1; ticks_is = s2.0; from_delay = s2.1; delay_is = s3; error_is = s4.0; from_last = s4.1; last_is = s5.0; key_is = k.0 ∙ s5.1; key_long = k.1 } in
    let whole = setup_is _ _ _ _ _ _ _ _ _ _ _ _ _ _ _ a c.from_be_bytes-4.ensures c.from_be_bytes.ensures c.from_be_bytes-2.ensures c.from_be_bytes-3.ensures in
    (setup_long _ _ _ _ _ _ _ _ _ _ _ a, rw (c.from.ensures, c.from-2.ensures, c.from-3.ensures, c.from-4.ensures) whole)
