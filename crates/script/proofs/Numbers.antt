-- The numbers of a line, one word at a time.
use Rattle.std.proofs.Common.{◌≡◌, ℕ, List, [], ◌∷◌, ◌++◌, ◌+◌, ◌<◌, length, get_or, drop, Some, None, Option, Ok, Err, Result, sym, refl, ap, ◌∙◌, append_assoc, append-nil, arith}
use Rattle.std.proofs.lemmas.List.{drop_more, drop_all}
use Rattle.std.specs.Option.{ok_or}
use Rattle.timing.specs.declared.refusal.Refusal.{Refusal}
use Rattle.timing.specs.declared.refusal.Refusal.TheVariants.{Malformed}
use Rattle.script.specs.Text.{decimal, and_number, numbers}

-- numbers that were read before those to come
abbrev pub ahead : List ℕ → Result (List ℕ) Refusal → Result (List ℕ) Refusal
ahead xs (Ok ys) = Ok (xs ++ ys)
ahead xs (Err e) = Err e

pub ahead_none : (r : Result (List ℕ) Refusal) → ahead [] r ≡ r
ahead_none (Ok ys) = refl
ahead_none (Err e) = refl

ahead_step : (xs : List ℕ) (n : ℕ) (r : Result (List ℕ) Refusal) → ahead xs (and_number (Some n) r) ≡ ahead (xs ++ n ∷ []) r
ahead_step xs n (Ok ys) = ap Ok (sym (append_assoc xs (n ∷ []) ys))
ahead_step xs n (Err e) = refl

-- the word in hand is the next of the line's
abbrev Turn : (ws : List (List ℕ)) → (k : ℕ) → (w : List ℕ) → Type 0
Turn ws k w = (k < length ws) × (w ≡ get_or ws k w)

numbers_from : (ws : List (List ℕ)) (k : ℕ) (w : List ℕ) → Turn ws k w → numbers (drop k ws) ≡ and_number (decimal w) (numbers (drop (k + 1) ws))
unfolding numbers
numbers_from ws k w t = ap numbers (drop_more ws k w t.0) ∙ ap (λ v. and_number (decimal v) (numbers (drop (k + 1) ws))) (sym t.1)

pub ahead_more : (xs : List ℕ) (ws : List (List ℕ)) (k : ℕ) (w : List ℕ) (n : ℕ) → Turn ws k w → Some n ≡ decimal w → ahead xs (numbers (drop k ws)) ≡ ahead (xs ++ n ∷ []) (numbers (drop (k + 1) ws))
ahead_more xs ws k w n t e = ap (ahead xs) (numbers_from ws k w t ∙ ap (λ o. and_number o (numbers (drop (k + 1) ws))) (sym e)) ∙ ahead_step xs n (numbers (drop (k + 1) ws))

pub ahead_bad : (xs : List ℕ) (ws : List (List ℕ)) (k : ℕ) (w : List ℕ) → Turn ws k w → None ≡ decimal w → ahead xs (numbers (drop k ws)) ≡ Err Malformed
ahead_bad xs ws k w t e = ap (ahead xs) (numbers_from ws k w t ∙ ap (λ o. and_number o (numbers (drop (k + 1) ws))) (sym e))

pub ahead_all : (xs : List ℕ) (ws : List (List ℕ)) (k : ℕ) → k ≡ length ws → ahead xs (numbers (drop k ws)) ≡ Ok xs
unfolding numbers
ahead_all xs ws k h = ap (λ l. ahead xs (numbers l)) (drop_all k ws (omega (arith, h))) ∙ ap Ok (append-nil xs)

pub was_none : (o : Option ℕ) (e x : Refusal) → ok_or o e ≡ Err x → (None ≡ o) × (x ≡ e)
was_none None e x h = let k : e ≡ x = cc in (refl, sym k)
was_none (Some n) e x h = cc

pub was_some : (o : Option ℕ) (e : Refusal) (n : ℕ) → ok_or o e ≡ Ok n → Some n ≡ o
was_some None e n h = cc
was_some (Some m) e n h = let k : m ≡ n = cc in ap Some (sym k)
