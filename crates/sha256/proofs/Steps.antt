-- One more step of each recursion of the specification, at `n + 1`.
use Rattle.std.proofs.Common.{◌≡◌, ℕ, zero, suc, ◌+◌, ◌-◌, ◌*◌, ◌/◌, ◌%◌, ◌^◌, ◌<◌, ◌≤◌, List, [], ◌∷◌, ◌++◌, length, get_or, take, drop, map, fold, replicate, refl, ap, subst, ◌∙◌, add-one, add-zero, add-suc, arith}
use Rattle.std.specs.Int.{w32, from_be_bytes}
use Rattle.std.specs.List.{range_with_len}
use Rattle.std.specs.Simd.{first_chunks}
use Rattle.std.proofs.lemmas.List.FromFn.{map-range_with_len_more}
use Rattle.std.proofs.lemmas.List.{length-drop, get_or-take, get_or-drop, take-append-le, drop-append-le, drop-drop, drop-take, take-take, take_at, drop_at, append_assoc, length-append, length-replicate}
use Rattle.sha256.specs.Sha256.{words, word_at, expanded, next_word, rounds, step, constants, absorb, compress, blocks, digest, state_bytes, padding, long_bytes, initial_hash}

-- the words of a block, from its pieces of four bytes
piece_at : (n i : ℕ) (bs : List ℕ) → i < n → get_or (first_chunks 4 n bs) i [] ≡ take 4 (drop (4 * i) bs)
piece_at zero i bs h = absurd (omega arith)
piece_at (suc n) zero bs h = refl
piece_at (suc n) (suc i) bs h =
    let e : 4 + 4 * i ≡ 4 * suc i = omega arith in
    piece_at n i (drop 4 bs) (omega arith) ∙ rw (drop-drop (4 * i) 4 bs, e)

word_of : (i : ℕ) (bs : List ℕ) → from_be_bytes w32 (take 4 (drop (4 * i) bs)) ≡ word_at bs i
word_of i bs =
    let l = drop (4 * i) bs in
    let g : (k : ℕ) → k < 4 → get_or (take 4 l) k 0 ≡ get_or bs (4 * i + k) 0 = λ k h. get_or-take 4 l k 0 h ∙ get_or-drop (4 * i) bs k 0 in
    let g0 = g 0 (omega arith) in
    let g1 = g 1 (omega arith) in
    let g2 = g 2 (omega arith) in
    let g3 = g 3 (omega arith) in
    let z = add-zero (4 * i) in
    rw (g0, g1, g2, g3, z)

words-from : (n : ℕ) (bs : List ℕ) → n ≤ 16 → map (λ i. from_be_bytes w32 (get_or (first_chunks 4 16 bs) i [])) (range_with_len 0 n) ≡ words n bs
unfolding words
words-from zero bs h = refl
words-from (suc n) bs h =
    let f : ℕ → ℕ = λ i. from_be_bytes w32 (get_or (first_chunks 4 16 bs) i []) in
    let w : f n ≡ word_at bs n = ap (from_be_bytes w32) (piece_at 16 n bs (omega arith)) ∙ word_of n bs in
    let P : ℕ → Type 0 = λ k. map f (range_with_len 0 k) ≡ map f (range_with_len 0 n) ++ f n ∷ [] in
    let more = subst P (add-one n) (map-range_with_len_more f 0 n n (omega arith)) in
    more ∙ rw (words-from n bs (omega arith), w)

pub words_are : (bs : List ℕ) (pieces : List (List ℕ)) → pieces ≡ first_chunks 4 (length bs / 4) bs → length bs ≡ 64
    → map (λ i. from_be_bytes w32 (get_or pieces i [])) (range_with_len 0 16) ≡ words 16 bs
words_are bs pieces is long =
    let e : length bs / 4 ≡ 16 = omega arith in
    rw (is, e) (words-from 16 bs (omega arith))

pub expanded-more : (n : ℕ) (bs : List ℕ) → expanded (n + 1) bs ≡ expanded n bs ++ next_word (expanded n bs) n ∷ []
unfolding expanded
expanded-more n bs = rw add-one

pub rounds_more : (n : ℕ) (ws s : List ℕ) → rounds (n + 1) ws s ≡ step (rounds n ws s) (get_or constants n 0) (get_or ws n 0)
unfolding rounds
rounds_more n ws s = rw add-one

absorb-suc : (n : ℕ) (bs s : List ℕ) → absorb (suc n) bs s ≡ absorb n (drop 64 bs) (compress s (take 64 bs))
unfolding absorb
absorb-suc n bs s = refl

-- the blocks of a text as pieces
fold_pieces : (n : ℕ) (bs s : List ℕ) → fold compress s (first_chunks 64 n bs) ≡ absorb n bs s
unfolding absorb
fold_pieces zero bs s = refl
fold_pieces (suc n) bs s = fold_pieces n (drop 64 bs) (compress s (take 64 bs))

take_pieces : (k n : ℕ) (bs : List ℕ) → k ≤ n → take k (first_chunks 64 n bs) ≡ first_chunks 64 k bs
take_pieces zero n bs h = refl
take_pieces (suc k) zero bs h = absurd (omega arith)
take_pieces (suc k) (suc n) bs h = ap (λ (xs : List (List ℕ)). take 64 bs ∷ xs) (take_pieces k n (drop 64 bs) (omega arith))

absorb-take : (k : ℕ) (bs s : List ℕ) → absorb k (take (64 * k) bs) s ≡ absorb k bs s
unfolding absorb
absorb-take zero bs s = refl
absorb-take (suc k) bs s =
    let e : 64 * suc k ≡ 64 + 64 * k = omega arith in
    rw (e, take-take 64 (64 + 64 * k) bs (omega arith), drop-take 64 (64 * k) bs) (absorb-take k (drop 64 bs) (compress s (take 64 bs)))

-- the first k blocks of a buffer of two, which are p
pub absorb_front : (k : ℕ) (buf p s : List ℕ) (pieces : List (List ℕ)) → pieces ≡ first_chunks 64 (length buf / 64) buf → length buf ≡ 128
    → k ≤ 2 → take (64 * k) buf ≡ p → fold compress s (take k pieces) ≡ absorb k p s
absorb_front k buf p s pieces is long small front =
    let e : length buf / 64 ≡ 2 = omega arith in
    rw (is, e, take_pieces k 2 buf small, fold_pieces k buf s, ← front, absorb-take k buf s)

-- the whole blocks of a text, and what is left of it
absorb-append : (k n : ℕ) (text pad s : List ℕ) → 64 * k ≤ length text → absorb (n + k) (text ++ pad) s ≡ absorb n (drop (64 * k) text ++ pad) (absorb k text s)
unfolding absorb
absorb-append zero n text pad s h = rw add-zero
absorb-append (suc k) n text pad s h =
    let e : 64 * suc k ≡ 64 + 64 * k = omega arith in
    let l : 64 * k ≤ length (drop 64 text) = simp length-drop (omega arith) in
    let ih = absorb-append k n (drop 64 text) pad (compress s (take 64 text)) l in
    rw (add-suc n k, absorb-suc, take-append-le 64 text pad (omega arith), drop-append-le 64 text pad (omega arith), ih, drop-drop (64 * k) 64 text, e)

-- only the low 64 bits of the length count
pub padding-low : (n : ℕ) → padding (n % 2 ^ 64) ≡ padding n
unfolding padding
padding-low n =
    let a : n % 2 ^ 64 % 64 ≡ n % 64 = omega arith in
    let b : 8 * (n % 2 ^ 64) % 2 ^ 64 ≡ 8 * n % 2 ^ 64 = omega arith in
    rw (a, b)

pub absorb-all : (m : ℕ) (text rest s t : List ℕ) (pieces : List (List ℕ)) → pieces ≡ first_chunks 64 (length text / 64) text → rest ≡ drop (length text / 64 * 64) text
    → t ≡ fold compress s pieces → absorb (blocks (length rest)) (rest ++ padding (m % 2 ^ 64)) t ≡ absorb (blocks (length text)) (text ++ padding m) s
absorb-all m text rest s t pieces front back is =
    let k = length text / 64 in
    let e : k * 64 ≡ 64 * k = omega arith in
    let l : blocks (length (drop (64 * k) text)) + k ≡ blocks (length text) = simp length-drop (omega arith) in
    let a = absorb-append k (blocks (length (drop (64 * k) text))) text (padding m) s (omega arith) in
    rw (padding-low m, is, front, fold_pieces k text s, back, e, ← a, l)

-- the hash of a text behind one block, which gave s
pub digest-block : (p text s : List ℕ) → length p ≡ 64 → s ≡ compress initial_hash p
    → state_bytes (absorb (blocks (length text)) (text ++ padding (64 + length text)) s) ≡ digest (p ++ text)
unfolding digest
digest-block p text s long is =
    let l : length (p ++ text) ≡ 64 + length text = simp (length-append, long) in
    let b : blocks (64 + length text) ≡ suc (blocks (length text)) = omega arith in
    let q = text ++ padding (64 + length text) in
    rw (is, l, b, append_assoc p text, absorb-suc, take_at p q 64 long, drop_at p q 64 long)

pub padded_length : (n : ℕ) → n + length (padding n) ≡ 64 * blocks n
unfolding padding
padded_length n = simp (length-append, length-replicate) (omega arith)

pub padding-exact : (n : ℕ) → n < 2 ^ 61 → padding n ≡ 128 ∷ replicate ((119 - n % 64) % 64) 0 ++ long_bytes (8 * n)
unfolding padding
padding-exact n h = let b : 8 * n % 2 ^ 64 ≡ 8 * n = omega arith in rw b
