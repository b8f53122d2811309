-- Frames that are read.
use Rattle.std.proofs.Common.{◌≡◌, ℕ, zero, suc, ◌+◌, ◌*◌, ◌/◌, ◌%◌, ◌<◌, ◌≤◌, true, false, leb, List, ◌∷◌, ◌++◌, length, take, drop, Some, Ok, sym, refl, ap, arith, length-append}
use Rattle.std.proofs.lemmas.Bool.{le-leb, lt-leb}
use Rattle.std.proofs.lemmas.List.{length-take-le, take_at, drop_at}
use Rattle.frames.specs.declared.head.Head.{Head}
use Rattle.frames.specs.declared.head.Source.{Source}
use Rattle.frames.specs.declared.head.Source.TheVariants.{Clock, Air}
use Rattle.frames.specs.Head.{head_answer, source_byte}
use Rattle.frames.specs.Frames.{encoded, read_frame, WrittenRead, FrontsRefused}

pub frame_read : (b : List ℕ) (h : Head) (x r : List ℕ) → 3 ≤ length b → Ok h ≡ head_answer b → h.len ≤ length (drop 3 b) → x ≡ take h.len (drop 3 b) → r ≡ drop h.len (drop 3 b) →
    read_frame b ≡ Some (record { source = h.source; bytes = x; rest = r })
frame_read b h x r p a q e f = rw (le-leb 3 (length b) p, ← a, le-leb h.len (length (drop 3 b)) q, e, f)

sum : (n : ℕ) → n / 256 * 256 + n % 256 ≡ n
sum n = omega arith

-- the head of a frame with so many bytes
abbrev head_of : Source → ℕ → Head
head_of s n = record { source = s; len = n }

head_is : (s : Source) (n : ℕ) (r : List ℕ) → Ok (head_of s n) ≡ head_answer (source_byte s ∷ (n / 256) ∷ (n % 256) ∷ r)
head_is Clock n r = ap (λ (m : ℕ). Ok (head_of Clock m)) (sym (sum n))
head_is Air n r = ap (λ (m : ℕ). Ok (head_of Air m)) (sym (sum n))

pub written_read : WrittenRead
written_read s b r l =
    frame_read (encoded s b ++ r) (head_of s (length b)) b r (omega arith) (head_is s (length b) (b ++ r)) (omega (arith, length-append b r)) (sym (take_at b r (length b) refl)) (sym (drop_at b r (length b) refl))

pub fronts_refused : FrontsRefused
fronts_refused s b zero l h = refl
fronts_refused s b (suc zero) l h = refl
fronts_refused s b (suc (suc zero)) l h = refl
fronts_refused s b (suc (suc (suc m))) l h =
    let k : m < length b = omega arith in
    let t : length (take m b) ≡ m = length-take-le m b (omega arith) in
    let f : leb (length b) (length (take m b)) ≡ false = lt-leb (length b) (length (take m b)) (omega arith) in
    let g : leb 3 (length (take (suc (suc (suc m))) (encoded s b))) ≡ true = le-leb 3 _ (omega arith) in
    rw (g, ← head_is s (length b) (take m b), f)
