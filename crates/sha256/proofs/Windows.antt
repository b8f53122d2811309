-- The schedule sixteen words at a time.
use Rattle.std.proofs.Common.{◌≡◌, ℕ, zero, suc, ◌+◌, ◌<◌, ◌≤◌, List, [], ◌∷◌, length, get_or, ◌++◌, drop, refl, sym, ap, ◌∙◌, add-zero, add-suc, arith}
use Rattle.std.proofs.lemmas.List.{length-append, get_or_append_left, get_or-drop, drop-append-le, drop-drop}
use Rattle.std.proofs.lemmas.List.FromFn.{fill_by_all}
use Rattle.sha256.specs.declared.Working.{Working}
use Rattle.sha256.specs.Sha256.{constants, words, next_word, expanded, schedule, step}
use Rattle.sha256.specs.Window.{slid, At}
use Rattle.sha256.proofs.Steps.{expanded-more, rounds_more}

expanded-length : (n : ℕ) (bs : List ℕ) → length (expanded n bs) ≡ n + 16
unfolding expanded words
expanded-length zero bs = refl
expanded-length (suc n) bs =
    let l = length-append (expanded n bs) (next_word (expanded n bs) n ∷ []) in
    let ih = expanded-length n bs in
    omega arith

next_dropped : (n : ℕ) (ws : List ℕ) → next_word (drop n ws) 0 ≡ next_word ws n
unfolding next_word
next_dropped n ws = simp (get_or-drop, add-zero)

-- sixteen words, written out
pub slid_is : (w : List ℕ) (n : ℕ) → length w ≡ 16 → n ≡ next_word w 0 → get_or w 1 0 ∷ get_or w 2 0 ∷ get_or w 3 0 ∷ get_or w 4 0 ∷ get_or w 5 0 ∷ get_or w 6 0 ∷ get_or w 7 0 ∷ get_or w 8 0 ∷ get_or w 9 0 ∷ get_or w 10 0 ∷ get_or w 11 0 ∷ get_or w 12 0 ∷ get_or w 13 0 ∷ get_or w 14 0 ∷ get_or w 15 0 ∷ n ∷ [] ≡ slid w
unfolding slid
slid_is w n long is =
    let all = fill_by_all (λ k. get_or w k 0) w 16 0 long (λ k h. refl) in
    ap (λ (xs : List ℕ). drop 1 xs ++ n ∷ []) (sym all) ∙ ap (λ (x : ℕ). drop 1 w ++ x ∷ []) is

-- the words from n on, one place further on
window_more : (n : ℕ) (bs : List ℕ) → slid (drop n (expanded n bs)) ≡ drop (n + 1) (expanded (n + 1) bs)
unfolding slid
window_more n bs =
    let ws = expanded n bs in
    let long = expanded-length n bs in
    let h : n + 1 ≤ length ws = omega arith in
    rw (expanded-more n bs, drop-append-le (n + 1) ws (next_word ws n ∷ []) h, drop-drop 1 n ws, next_dropped n ws)

-- later words leave the earlier ones
word_kept : (k n i : ℕ) (bs : List ℕ) → i < n + 16 → get_or (expanded (n + k) bs) i 0 ≡ get_or (expanded n bs) i 0
unfolding expanded
word_kept zero n i bs h = rw add-zero
word_kept (suc k) n i bs h =
    let ws = expanded (n + k) bs in
    let long = expanded-length (n + k) bs in
    let l : i < length ws = omega arith in
    rw (add-suc n k, get_or_append_left ws (next_word ws (n + k) ∷ []) 0 i l) (word_kept k n i bs h)

-- the word of round i stands first among the words from i on
first_word : (i : ℕ) (bs : List ℕ) → i < 64 → get_or (drop i (expanded i bs)) 0 0 ≡ get_or (schedule bs) i 0
unfolding schedule
first_word i bs h =
    let a = word_kept 48 i i bs (omega arith) in
    let b = word_kept i 48 i bs (omega arith) in
    let e : i + 48 ≡ 48 + i = omega arith in
    rw (get_or-drop i (expanded i bs) 0 0, add-zero i, ← a, e, b)

pub at_more : (block s : List ℕ) (v r : Working) → v.round < 64 → At block s v → r.round ≡ v.round + 1
    → r.hash ≡ step v.hash (get_or constants v.round 0) (get_or v.window 0 0) → r.window ≡ slid v.window → At block s r
at_more block s v r h a e hash window =
    let f = first_word v.round block h in
    let m = rounds_more v.round (schedule block) s in
    let w = window_more v.round block in
    let ah = a.hash_is in
    let aw = a.window_is in
    record { hash_is = cc; window_is = cc }
