-- What is read, written again, gives the same bytes.
use Rattle.std.proofs.Common.{◌≡◌, ℕ, ◌+◌, ◌-◌, ◌*◌, ◌/◌, ◌%◌, ◌<◌, ◌≤◌, List, [], ◌∷◌, ◌++◌, length, get_or, take, drop, sym, ap, ◌∙◌, arith}
use Rattle.std.proofs.lemmas.List.{take_at, take-append-drop, length-take-le}
use Rattle.model.specs.Receiver.{Said, message_bytes}
use Rattle.wire.specs.Bytes.{two_at}
use Rattle.wire.specs.Fits.{Bytes}
use Rattle.wire.specs.Formats.{Key, key_part, key_part_in, said_bytes, said_in, behind_text, packet, message_encoded}

pub two_high : (h l : ℕ) → l < 256 → (h * 256 + l) / 256 ≡ h
two_high h l t = omega arith

pub two_low : (h l : ℕ) → l < 256 → (h * 256 + l) % 256 ≡ l
two_low h l t = omega arith

pub key_part_again : (b : List ℕ) → Bytes b → 2 ≤ length b → b ≡ key_part (key_part_in b)
key_part_again [] t h = absurd (omega arith)
key_part_again (x ∷ []) t h = absurd (omega arith)
key_part_again (x ∷ (y ∷ rest)) t h = rw (two_high x y (t 1), two_low x y (t 1))

pub said_again : (b : List ℕ) → Bytes b → get_or b 4 0 + 5 ≤ length b → b ≡ said_bytes (get_or b 0 0) (said_in b) ++ behind_text b
said_again [] t h = absurd (omega arith)
said_again (k ∷ []) t h = absurd (omega arith)
said_again (k ∷ (x ∷ [])) t h = absurd (omega arith)
said_again (k ∷ (x ∷ (y ∷ []))) t h = absurd (omega arith)
said_again (k ∷ (x ∷ (y ∷ (i ∷ [])))) t h = absurd (omega arith)
said_again (k ∷ (x ∷ (y ∷ (i ∷ (n ∷ rest))))) t h =
    let l : n ≤ length rest = omega arith in
    rw (two_high x y (t 2), two_low x y (t 2), length-take-le n rest l, take-append-drop n rest)

-- an interval and a key, taken apart
pub key_part_whole : (b first key : List ℕ) (i : ℕ) → Bytes b → 2 ≤ length b → first ≡ take 2 b → i ≡ two_at first 0 → key ≡ drop 2 b → b ≡ key_part (record { interval = i; key = key })
key_part_whole [] first key i t h f e g = absurd (omega arith)
key_part_whole (x ∷ []) first key i t h f e g = absurd (omega arith)
key_part_whole (x ∷ (y ∷ rest)) first key i t h f e g = rw (e, f, g) (key_part_again (x ∷ (y ∷ rest)) t h)

pub message_whole : (b : List ℕ) (s : Said) (rest tag last : List ℕ) (k : Key) → b ≡ said_bytes 1 s ++ rest → tag ≡ take 16 rest → last ≡ drop 16 rest → last ≡ key_part k →
    b ≡ message_encoded (packet s tag k)
message_whole b s rest tag last k w f g p =
    let e : rest ≡ tag ++ key_part k = sym (take-append-drop 16 rest) ∙ rw (f, ← p, g) in w ∙ ap (λ r. said_bytes 1 s ++ r) e

pub under_tag : (b : List ℕ) (s : Said) (rest : List ℕ) (n : ℕ) → b ≡ said_bytes 1 s ++ rest → n ≡ length s.text → take (5 + n - 0) b ≡ message_bytes s
under_tag b s rest n w e = ap (take (5 + n - 0)) w ∙ take_at (message_bytes s) rest (5 + n - 0) (omega arith)

pub tag_long : (rest tag last : List ℕ) → tag ≡ take 16 rest → last ≡ drop 16 rest → length last + 16 ≡ length rest → length tag ≡ 16
tag_long rest tag last f g l = ap length f ∙ length-take-le 16 rest (omega arith)
