-- The order of delivery: what one more interval gives, and that there is room for all.
use Rattle.std.proofs.Common.{◌≡◌, ℕ, zero, suc, pred, ◌+◌, ◌-◌, ◌<◌, ◌≤◌, true, false, cond, ◌&&◌, eqb, leb, List, [], ◌∷◌, ◌++◌, map, length, get_or, take, sym, refl, ap, ◌∙◌, arith}
use Rattle.std.proofs.lemmas.Bool.{cond_both}
use Rattle.std.proofs.lemmas.Bool.Decides.{nat_tests}
use Rattle.std.proofs.lemmas.List.{length-append, take_more, length-map, get_or-map}
use Rattle.model.specs.Term.{MacFn}
use Rattle.model.specs.Receiver.{Message, Said, is_right, of_interval, right_of, right_up_to, walked}
use Rattle.buffer.specs.declared.message.Buffered.{Buffered}
use Rattle.buffer.specs.Buffers.{as_message, messages_in, up_to}

pub upto_more : (i : ℕ) (xs : List Message) → up_to (i + 1) xs ≡ up_to i xs + of_interval (i + 1) xs
unfolding up_to of_interval
upto_more i [] = refl
upto_more i (x ∷ xs) = let e = upto_more i xs in grind (arith, nat_tests)

pub upto_few : (i : ℕ) (xs : List Message) → up_to i xs ≤ length xs
unfolding up_to
upto_few i [] = omega arith
upto_few i (x ∷ xs) = let e = upto_few i xs in cond_both (leb x.says.interval i) (suc (up_to i xs)) (up_to i xs) (λ (n : ℕ). n ≤ suc (length xs)) (λ _. omega arith) (λ _. omega arith)

pub right_push : (m : MacFn) (k : List ℕ) (i : ℕ) (xs : List Message) (x : Message) → right_of m k i (xs ++ x ∷ []) ≡ right_of m k i xs ++ cond (eqb x.says.interval i && is_right m k x) (x.says ∷ []) []
unfolding right_of
right_push m k i [] x = refl
right_push m k i (y ∷ xs) x =
    let e = right_push m k i xs x in
    elim (eqb y.says.interval i && is_right m k y) as (λ b. cond b (y.says ∷ right_of m k i (xs ++ x ∷ [])) (right_of m k i (xs ++ x ∷ [])) ≡ cond b (y.says ∷ right_of m k i xs) (right_of m k i xs) ++ cond (eqb x.says.interval i && is_right m k x) (x.says ∷ []) [])
    [ true ↦ ap (λ (l : List Said). y.says ∷ l) e | false ↦ e ]

pub right_none : (m : MacFn) (k : List ℕ) (i : ℕ) → right_of m k i [] ≡ []
unfolding right_of
right_none m k i = refl

pub delivery_none : (m : MacFn) (k : List ℕ) (n j : ℕ) (xs : List Message) → n ≡ 0 → right_up_to m k n j xs ≡ []
unfolding right_up_to
delivery_none m k n j xs e = rw e

pub delivery_more : (m : MacFn) (k : List ℕ) (f i j : ℕ) (xs : List Message) → f ≤ i → i < j
    → right_up_to m (walked m (j - (i + 1)) k) (i + 1 - f) (i + 1) xs ≡ right_up_to m (walked m (j - i) k) (i - f) i xs ++ right_of m (walked m (j - (i + 1)) k) (i + 1) xs
unfolding right_up_to walked
delivery_more m k f i j xs a b =
    let p : i + 1 - f ≡ suc (i - f) = omega arith in
    let q : j - i ≡ suc (j - (i + 1)) = omega arith in
    let o : pred (i + 1) ≡ i = omega arith in
    rw (p, q, o)

pub of_take : (i p : ℕ) (xs : List Message) → of_interval i (take p xs) ≤ of_interval i xs
unfolding of_interval
of_take i zero xs = omega arith
of_take i (suc p) [] = omega arith
of_take i (suc p) (x ∷ xs) =
    let e = of_take i p xs in
    elim (eqb x.says.interval i) as (λ b. cond b (suc (of_interval i (take p xs))) (of_interval i (take p xs)) ≤ cond b (suc (of_interval i xs)) (of_interval i xs)) [ true ↦ omega arith | false ↦ omega arith ]

-- one message more of a buffer, which is met at its place
pub one_met : {P : Type 0} (ks : List Buffered) (ys : List P) (p : P) (x : Buffered) → length ys < length ks → x ≡ get_or ks (length ys) x
    → take (length (ys ++ p ∷ [])) (messages_in ks) ≡ take (length ys) (messages_in ks) ++ as_message x ∷ []
unfolding messages_in
one_met ks ys p x h e =
    let ws = map as_message ks in
    let n = length ys in
    let l : length (ys ++ p ∷ []) ≡ n + 1 = length-append ys (p ∷ []) in
    let within : n < length ws = omega (arith, length-map ks as_message) in
    let here : get_or ws n (as_message x) ≡ as_message x = get_or-map as_message ks n x (as_message x) h ∙ ap as_message (sym e) in
    ap (λ i. take i ws) l ∙ take_more ws n (as_message x) within ∙ ap (λ w. take n ws ++ w ∷ []) here
