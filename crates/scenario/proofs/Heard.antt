-- What the receivers make of a message, one receiver at a time.
use Rattle.std.proofs.Common.{◌≡◌, ℕ, ◌+◌, ◌<◌, ◌≤◌, List, [], ◌∷◌, ◌++◌, length, Result, get_or, drop, sym, ap, ◌∙◌, append_assoc, append-nil}
use Rattle.std.proofs.lemmas.List.{drop_more, drop_all}
use Rattle.timing.specs.Judged.{judged}
use Rattle.timing.specs.Time.{Params}
use Rattle.timing.specs.declared.refusal.Refusal.{Refusal}
use Rattle.scenario.specs.declared.arrival.Arrival.{Arrival}
use Rattle.scenario.specs.Scenes.{arrivals}

pub heard_more : (xs : List Arrival) (p : Params) (l i r k : ℕ) (cs : List ℕ) (j : Result Unit Refusal) → k < length cs → j ≡ judged p (get_or cs k 0) i →
    xs ++ arrivals p l i r (drop k cs) ≡ (xs ++ record { line = l; interval = i; receiver = r; clock = get_or cs k 0; judgement = j } ∷ []) ++ arrivals p l i (r + 1) (drop (k + 1) cs)
unfolding arrivals
heard_more xs p l i r k cs j h e =
    ap (λ x. xs ++ arrivals p l i r x) (drop_more cs k 0 h)
    ∙ ap (λ v. xs ++ record { line = l; interval = i; receiver = r; clock = get_or cs k 0; judgement = v } ∷ arrivals p l i (r + 1) (drop (k + 1) cs)) (sym e)
    ∙ sym (append_assoc xs (record { line = l; interval = i; receiver = r; clock = get_or cs k 0; judgement = j } ∷ []) (arrivals p l i (r + 1) (drop (k + 1) cs)))

pub heard_all : (xs : List Arrival) (p : Params) (l i r k : ℕ) (cs : List ℕ) → length cs ≤ k → xs ++ arrivals p l i r (drop k cs) ≡ xs
unfolding arrivals
heard_all xs p l i r k cs h = ap (λ x. xs ++ arrivals p l i r x) (drop_all k cs h) ∙ append-nil xs
