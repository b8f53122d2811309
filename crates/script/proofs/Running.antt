-- Scripts, one line at a time.
use Rattle.std.proofs.Common.{◌≡◌, ℕ, ◌+◌, List, [], ◌∷◌, Ok, Err, Result, sym, ap, ◌∙◌}
use Rattle.std.proofs.lemmas.Result.{err_from_is_err_and}
use Rattle.std.specs.Result.{IsErrAnd}
use Rattle.script.specs.declared.error.Error.{Error}
use Rattle.script.specs.declared.stop.Stop.{Stop}
use Rattle.script.specs.Reading.{Steps, Ends, Runs, in_place}
use Rattle.script.specs.Stops.{at_line, with_line}

module _ {S V : Type 0} (steps : Steps S) (ends : Ends S V) where
  pub line_done : (n : ℕ) (s t : S) (l : List ℕ) (ls : List (List ℕ)) (q : Result Unit Stop) (w : Result Unit Error) (u : Unit) (r : Result V Error) → steps s (n + 1) l (in_place t q) → w ≡ with_line (n + 1) q → w ≡ Ok u → Runs steps ends (n + 1) t ls r → Runs steps ends n s (l ∷ ls) r
  unfolding Runs
  line_done n s t l ls (Ok v) w u r h d e m = (Ok t, h, m)
  line_done n s t l ls (Err x) w u r h d e m = cc

  pub line_stops : (n : ℕ) (s t : S) (l : List ℕ) (ls : List (List ℕ)) (q : Result Unit Stop) (w : Result Unit Error) (x : Error) (r : Result V Error) → steps s (n + 1) l (in_place t q) → w ≡ with_line (n + 1) q → w ≡ Err x → IsErrAnd r (λ y. y ≡ x) → Runs steps ends n s (l ∷ ls) r
  unfolding Runs
  line_stops n s t l ls (Ok v) w x r h d e m = cc
  line_stops n s t l ls (Err y) w x r h d e m =
      let k : at_line (n + 1) y ≡ x = cc in
      let p = err_from_is_err_and r m in
      (Err y, h, p.1 ∙ ap Err (p.2 ∙ sym k))

  pub lines_end : (n : ℕ) (s : S) (q : Result V Stop) (r : Result V Error) → ends s q → r ≡ with_line n q → Runs steps ends n s [] r
  unfolding Runs
  lines_end n s q r h e = (q, h, e)
