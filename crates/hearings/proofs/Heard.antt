-- Receivers that hear the same bytes, one after the other.
use Rattle.std.proofs.Common.{◌≡◌, ℕ, ◌+◌, ◌<◌, ◌≤◌, ◌≢◌, List, [], ◌∷◌, ◌++◌, length, get_or, take, set, sym, ap, ◌∙◌, add-zero, arith, get_or-set_other, get_or-set_same, below_more}
use Rattle.std.proofs.lemmas.List.{map-append, take_more, length-take-le, get_or_default}
use Rattle.model.specs.Receiver.{Said}
use Rattle.receiver.specs.Calls.{from_air, state_after}
use Rattle.receiver.specs.State.{params_of, state_of}
use Rattle.receiver.specs.declared.state.Receiver.{Receiver}
use Rattle.hearings.specs.declared.event.Hearing.{Hearing}
use Rattle.hearings.specs.Hearings.{hearing_of, hearings_of, heard_by, heard_from, HeardUpTo}

heard_both : (ss : List Said) (n : ℕ) (b : List ℕ) (xs : List Receiver) (x : Receiver) → heard_from ss n b (xs ++ x ∷ []) ≡ heard_from ss n b xs ++ heard_by ss (n + length xs) b x ∷ []
unfolding heard_from
heard_both ss n b [] x = ap (λ m. heard_by ss m b x ∷ []) (sym (add-zero n))
heard_both ss n b (y ∷ xs) x =
    let e : n + 1 + length xs ≡ n + length (y ∷ xs) = omega arith in
    ap (λ r. heard_by ss n b y ∷ r) (heard_both ss (n + 1) b xs x) ∙ ap (λ m. heard_by ss n b y ∷ (heard_from ss (n + 1) b xs ++ heard_by ss m b x ∷ [])) e

pub heard_more : (ss : List Said) (b : List ℕ) (rs : List Receiver) (i : ℕ) (old : Receiver) (hs : List Hearing) (h : Hearing) → i < length rs → old ≡ get_or rs i old → hearing_of h ≡ heard_by ss (i + 1) b old → hearings_of hs ≡ heard_from ss 1 b (take i rs) → hearings_of (hs ++ h ∷ []) ≡ heard_from ss 1 b (take (i + 1) rs)
heard_more ss b rs i old hs h l o e p =
    let c : i + 1 ≡ 1 + length (take i rs) = omega (arith, length-take-le i rs (omega (arith, l))) in
    map-append hearing_of hs (h ∷ []) ∙ ap (λ r. r ++ hearing_of h ∷ []) p ∙ ap (λ y. heard_from ss 1 b (take i rs) ++ y ∷ []) (e ∙ ap (λ k. heard_by ss k b old) c ∙ ap (heard_by ss (1 + length (take i rs)) b) o)
    ∙ sym (heard_both ss 1 b (take i rs) (get_or rs i old)) ∙ ap (heard_from ss 1 b) (sym (take_more rs i old l))

pub states_more : (b : List ℕ) (rs now : List Receiver) (i : ℕ) (a old : Receiver) → i < length now → i < length rs → old ≡ get_or rs i old → state_of a ≡ state_after (params_of old) (from_air b) (state_of old) → HeardUpTo b i rs now → HeardUpTo b (i + 1) rs (set now i a)
states_more b rs now i a old l m o e f k d h =
    let P : ℕ → Type 0 = λ k. (d : Receiver) → state_of (get_or (set now i a) k d) ≡ state_after (params_of (get_or rs k d)) (from_air b) (state_of (get_or rs k d)) in
    below_more P i
    (λ k h d. let ne : k ≢ i = omega (arith, h) in rw get_or-set_other (f k d h))
    (λ d. ap state_of (get_or-set_same now i a d l) ∙ e ∙ ap (λ x. state_after (params_of x) (from_air b) (state_of x)) (o ∙ get_or_default rs i old d m))
    k h d
