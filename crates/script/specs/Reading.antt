-- Scripts, line by line.
use Rattle.std.specs.Prelude.{◌≡◌, ℕ, ◌+◌, List, [], ◌∷◌, Ok, Err, Result}
use Rattle.script.specs.declared.error.Error.{Error}
use Rattle.script.specs.declared.stop.Stop.{Stop}
use Rattle.script.specs.Stops.{at_line, with_line}

-- what a line may make of what stands, by its number and its bytes
abbrev pub Steps : (S : Type 0) → Type 1
Steps S = S → (line : ℕ) → (text : List ℕ) → Result S Stop → Type 0

-- what may have been read where the script ends
abbrev pub Ends : (S V : Type 0) → Type 1
Ends S V = S → Result V Stop → Type 0

-- what stands after a line that is followed in place, or its refusal
abbrev pub in_place : {S : Type 0} → S → Result Unit Stop → Result S Stop
in_place s (Ok u) = Ok s
in_place s (Err e) = Err e

-- what comes of a line: more, or its refusal with its number
abbrev pub Onward : {S V : Type 0} → (line : ℕ) → (more : S → Type 0) → Result S Stop → Result V Error → Type 0
Onward n more (Ok s) r = more s
Onward n more (Err e) r = r ≡ Err (at_line n e)

-- the lines behind the first n, from what stands by then: each is followed, up to the first that is refused, which is
-- the fault's; where none is, the script ends, and a fault is at its last line
unfoldable pub Runs : {S V : Type 0} → Steps S → Ends S V → (n : ℕ) → S → (lines : List (List ℕ)) → Result V Error → Type 0
Runs {S} {V} steps ends n s [] r = (q : Result V Stop) × ends s q × (r ≡ with_line n q)
Runs {S} {V} steps ends n s (l ∷ ls) r = (q : Result S Stop) × steps s (n + 1) l q × Onward (n + 1) (λ t. Runs steps ends (n + 1) t ls r) q r
