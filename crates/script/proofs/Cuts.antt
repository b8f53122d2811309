-- The pieces of bytes, by the place of the first separator.
use Rattle.std.proofs.Common.{◌≡◌, ℕ, ◌+◌, ◌<◌, true, false, eqb, List, [], ◌∷◌, ◌++◌, length, get_or, take, drop, sym, ap, ◌∙◌, arith, length-take, take-append-drop}
use Rattle.std.proofs.lemmas.List.{drop_more, get_or-take}
use Rattle.std.proofs.lemmas.List.Splits.{slice_split_none, slice_split_at}
use Rattle.std.specs.List.{All, AllWithin, HoldsAt, slice_split}
use Rattle.script.specs.Text.{pieces}

pub cut_here : (s : ℕ) (xs : List ℕ) (i : ℕ) → i < length xs → HoldsAt (λ x. eqb x s ≡ true) xs i → AllWithin (λ x. eqb x s ≡ false) xs 0 i → pieces s xs ≡ take i xs ∷ pieces s (drop (i + 1) xs)
unfolding pieces
cut_here s xs i h y n =
    let apart : All (λ x. eqb x s ≡ false) (take i xs) = λ k d w. rw (get_or-take i xs k d (omega (arith, length-take i xs))) (n k d (omega arith) (omega (arith, length-take i xs))) in
    let parts : xs ≡ take i xs ++ get_or xs i 0 ∷ drop (i + 1) xs = sym (take-append-drop i xs) ∙ ap (λ r. take i xs ++ r) (drop_more xs i 0 h) in
    ap (slice_split (λ x. eqb x s)) parts ∙ slice_split_at (λ x. eqb x s) (take i xs) (get_or xs i 0) (drop (i + 1) xs) apart (y 0)

pub cut_nowhere : (s : ℕ) (xs : List ℕ) → AllWithin (λ x. eqb x s ≡ false) xs 0 (length xs) → pieces s xs ≡ xs ∷ []
unfolding pieces
cut_nowhere s xs n = slice_split_none (λ x. eqb x s) xs (λ k d w. n k d (omega arith) w)
