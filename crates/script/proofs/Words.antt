-- The words of a line, one piece at a time, and the digits of a number.
use Rattle.std.proofs.Common.{◌≡◌, ℕ, zero, suc, ◌+◌, ◌-◌, ◌*◌, ◌^◌, ◌<◌, ◌≤◌, Bool, true, false, not, cond, ◌&&◌, eqb, ltb, List, [], ◌∷◌, length, get_or, drop, filter, inl, inr, Some, None, Option, sym, refl, ap, ◌∙◌, arith, add-zero, length-drop}
use Rattle.std.proofs.lemmas.Bool.{ne_eqb}
use Rattle.std.proofs.lemmas.List.{drop_more, drop_all, get_or-drop}
use Rattle.std.proofs.lemmas.List.Splits.{slice_split-cons_yes, slice_split-cons_no, join_with_byte-slice_split}
use Rattle.std.specs.List.{AllWithin, HoldsAt, slice_get, slice_split, onto_first, join_with_byte}
use Rattle.script.specs.Text.{pieces, FirstPiece, words, from_word, word_of, rest_of, is_digit, digits, decimal}

-- nothing but spaces before
skip : (i : ℕ) (xs : List ℕ) → AllWithin (λ x. eqb x 32 ≡ true) xs 0 i → from_word (pieces 32 xs) ≡ from_word (pieces 32 (drop i xs))
unfolding from_word pieces
skip zero xs h = refl
skip (suc i) [] h = refl
skip (suc i) (x ∷ xs) h =
    ap from_word (slice_split-cons_yes (λ b. eqb b 32) x xs (h 0 0 (omega arith) (omega arith))) ∙ skip i xs (λ k d a b. h (suc k) d (omega arith) (omega (arith, b)))

some_not : (n : ℕ) → eqb (suc n) 0 ≡ false
some_not n = ne_eqb (suc n) 0 (λ e. omega (arith, e))

from_some : (w : List ℕ) (ps : List (List ℕ)) → eqb (length w) 0 ≡ false → from_word (w ∷ ps) ≡ w ∷ ps
unfolding from_word
from_some [] ps e = cc
from_some (b ∷ w) ps e = refl

onto_some : (b : ℕ) (qs : List (List ℕ)) (w : List ℕ) (ps : List (List ℕ)) → onto_first b qs ≡ w ∷ ps → eqb (length w) 0 ≡ false
onto_some b [] w ps h = let e : b ∷ [] ≡ w = cc in rw (← e) (some_not 0)
onto_some b (q ∷ qs) w ps h = let e : b ∷ q ≡ w = cc in rw (← e) (some_not (length q))

-- the first piece of bytes that begin a word is that word
piece_some : (s w : List ℕ) (ps : List (List ℕ)) → 0 < length s → eqb (get_or s 0 0) 32 ≡ false → pieces 32 s ≡ w ∷ ps → eqb (length w) 0 ≡ false
unfolding pieces
piece_some [] w ps l a h = absurd (omega (arith, l))
piece_some (b ∷ bs) w ps l a h = onto_some b (slice_split (λ x. eqb x 32) bs) w ps (sym (slice_split-cons_no (λ x. eqb x 32) b bs a) ∙ h)

filter_from : (ps : List (List ℕ)) → filter (λ w. not (eqb (length w) 0)) ps ≡ filter (λ w. not (eqb (length w) 0)) (from_word ps)
unfolding from_word
filter_from [] = refl
filter_from ([] ∷ ps) = filter_from ps
filter_from ((b ∷ bs) ∷ ps) = refl

filter_some : (w : List ℕ) (ps : List (List ℕ)) → eqb (length w) 0 ≡ false → filter (λ v. not (eqb (length v) 0)) (w ∷ ps) ≡ w ∷ filter (λ v. not (eqb (length v) 0)) ps
filter_some [] ps e = cc
filter_some (b ∷ w) ps e = ap (λ t. cond (not t) ((b ∷ w) ∷ filter (λ v. not (eqb (length v) 0)) ps) (filter (λ v. not (eqb (length v) 0)) ps)) (some_not (length w))

-- a line's first word, and what stands behind it
pub record Found (line word rest : List ℕ) : Type 0 where
  pub words_are : words line ≡ word ∷ words rest
  pub shorter : length rest < length line
  pub word_is : word_of line ≡ Some word
  pub rest_is : rest_of line ≡ rest

rejoined : (r : List ℕ) → join_with_byte 32 (pieces 32 r) ≡ r
unfolding pieces
rejoined r = join_with_byte-slice_split 32 r

found : (line s w r : List ℕ) → from_word (pieces 32 line) ≡ from_word (pieces 32 s) → 0 < length s → eqb (get_or s 0 0) 32 ≡ false → pieces 32 s ≡ w ∷ pieces 32 r → length r < length line → Found line w r
unfolding words word_of rest_of
found line s w r i l a h k =
    let e = piece_some s w (pieces 32 r) l a h in
    let f : from_word (pieces 32 line) ≡ w ∷ pieces 32 r = i ∙ ap from_word h ∙ from_some w (pieces 32 r) e in
    record {
      words_are = filter_from (pieces 32 line) ∙ ap (filter (λ v. not (eqb (length v) 0))) f ∙ filter_some w (pieces 32 r) e;
      shorter = k;
      word_is = ap (λ ps. slice_get ps 0) f;
      rest_is = ap (λ ps. join_with_byte 32 (drop 1 ps)) f ∙ rejoined r;
    }

found_last : (line s : List ℕ) → from_word (pieces 32 line) ≡ from_word (pieces 32 s) → 0 < length s → eqb (get_or s 0 0) 32 ≡ false → pieces 32 s ≡ s ∷ [] → length s ≤ length line → Found line s []
unfolding words word_of rest_of pieces
found_last line s i l a h k =
    let e = piece_some s s [] l a h in
    let f : from_word (pieces 32 line) ≡ s ∷ [] = i ∙ ap from_word h ∙ from_some s [] e in
    record {
      words_are = filter_from (pieces 32 line) ∙ ap (filter (λ v. not (eqb (length v) 0))) f ∙ filter_some s [] e;
      shorter = omega (arith, l, k);
      word_is = ap (λ ps. slice_get ps 0) f;
      rest_is = ap (λ ps. join_with_byte 32 (drop 1 ps)) f;
    }

found_by : (line s w r : List ℕ) → from_word (pieces 32 line) ≡ from_word (pieces 32 s) → 0 < length s → eqb (get_or s 0 0) 32 ≡ false → length s ≤ length line → FirstPiece 32 s w r → Found line w r
found_by line s w r i l a k (inl h) = found line s w r i l a h.0 (omega (arith, h.1, k))
found_by line s w r i l a k (inr h) = rw (h.1, h.2) (found_last line s i l a h.0 k)

-- the first byte that is no space begins the word
pub found_at : (line w r : List ℕ) (i : ℕ) → (i < length line) × HoldsAt (λ x. eqb x 32 ≡ false) line i × AllWithin (λ x. eqb x 32 ≡ true) line 0 i → FirstPiece 32 (drop i line) w r → Found line w r
found_at line w r i p h =
    let a : eqb (get_or (drop i line) 0 0) 32 ≡ false = rw (get_or-drop i line 0 0, add-zero i) (p.1 0) in
    found_by line (drop i line) w r (skip i line p.2) (omega (arith, length-drop i line, p.0)) a (omega (arith, length-drop i line)) h

pub nowhere : (line : List ℕ) → AllWithin (λ x. eqb x 32 ≡ true) line 0 (length line) → (words line ≡ []) × (word_of line ≡ None)
unfolding words word_of from_word pieces
nowhere line h =
    let f : from_word (pieces 32 line) ≡ [] = skip (length line) line h ∙ ap (λ s. from_word (pieces 32 s)) (drop_all (length line) line (omega arith)) in
    (filter_from (pieces 32 line) ∙ ap (filter (λ v. not (eqb (length v) 0))) f, ap (λ ps. slice_get ps 0) f)

abbrev with_digit : ℕ → ℕ → Option ℕ
with_digit n b = cond (is_digit b && ltb (n * 10 + (b - 48)) (2 ^ 64)) (Some (n * 10 + (b - 48))) None

next : (t : Bool) (m k : ℕ) (bs : List ℕ) → Some k ≡ cond t (Some m) None → cond t (digits m bs) None ≡ digits k bs
next true m k bs e = let q : k ≡ m = cc in ap (λ x. digits x bs) (sym q)
next false m k bs e = let z : ◌≡◌ {A = ℕ} 0 1 = cc in absurd (omega arith)

stop : (t : Bool) (m : ℕ) (r : Option ℕ) → None ≡ cond t (Some m) None → cond t r None ≡ None
stop true m r e = let z : ◌≡◌ {A = ℕ} 0 1 = cc in absurd (omega arith)
stop false m r e = refl

pub digit_more : (n k i : ℕ) (w : List ℕ) → i < length w → Some k ≡ with_digit n (get_or w i 0) → digits n (drop i w) ≡ digits k (drop (i + 1) w)
unfolding digits
digit_more n k i w h e =
    ap (digits n) (drop_more w i 0 h) ∙ next (is_digit (get_or w i 0) && ltb (n * 10 + (get_or w i 0 - 48)) (2 ^ 64)) (n * 10 + (get_or w i 0 - 48)) k (drop (i + 1) w) e

pub digit_bad : (n i : ℕ) (w : List ℕ) → i < length w → None ≡ with_digit n (get_or w i 0) → digits n (drop i w) ≡ None
unfolding digits
digit_bad n i w h e =
    ap (digits n) (drop_more w i 0 h) ∙ stop (is_digit (get_or w i 0) && ltb (n * 10 + (get_or w i 0 - 48)) (2 ^ 64)) (n * 10 + (get_or w i 0 - 48)) (digits (n * 10 + (get_or w i 0 - 48)) (drop (i + 1) w)) e

pub digit_all : (n i : ℕ) (w : List ℕ) → length w ≤ i → digits n (drop i w) ≡ Some n
unfolding digits
digit_all n i w h = ap (digits n) (drop_all i w h)

pub decimal_some : (w : List ℕ) → eqb (length w) 0 ≡ false → decimal w ≡ digits 0 w
decimal_some [] e = let z : ◌≡◌ {A = Bool} true false = e in cc
decimal_some (b ∷ w) e = refl
