-- A script followed line by line.
use Rattle.std.proofs.Common.{◌≡◌, ℕ, ◌+◌, Bool, true, false, List, [], ◌∷◌, ◌++◌, length, is_ok, Ok, Err, Result, Vec, ◌==◌, sym, refl, ap, ◌∙◌, subst, append_assoc, length-append, arith}
use Rattle.std.proofs.ByRecursion.{All-push}
use Rattle.std.proofs.lemmas.List.Splits.{length-slice_split}
use Rattle.std.specs.List.{AllByRecursion}
use Rattle.timing.specs.declared.refusal.Refusal.{Refusal}
use Rattle.script.specs.Text.{pieces, lines_of}
use Rattle.script.specs.Reading.{Ends, Runs}
use Rattle.script.specs.Stops.{with_line}
use Rattle.script.specs.declared.error.Error.{Error}
use Rattle.script.specs.declared.stop.Stop.{Stop}
use Rattle.script.specs.declared.stop.Stop.TheVariants as stop
use Rattle.std.specs.declared.alloc.Global.{Global}
use Rattle.hearings.specs.declared.event.Event.{Event}
use Rattle.simulation.specs.Plays.{Reads, Why, Followed, PlaysLines, Plays, Concludes}
use Rattle.simulation.specs.declared.stage.Stage.{Stage}
use Rattle.simulation.specs.declared.stage.Stage.TheVariants.{Dark}

-- a line that reads has no reason not to
no_reason : (t : List ℕ) (e : Refusal) → Reads t → Why t e
no_reason t e r x f = let z : ◌≡◌ {A = Bool} true false = sym r ∙ ap is_ok f in cc

module _ {S V : Type 0} (ends : Ends S V) where
  -- what came of the end, behind a last line that reads
  at_end : (ls : List (List ℕ)) (l : List ℕ) (n : ℕ) (q : Result V Stop) → n ≡ length ls + 1 → AllByRecursion Reads ls → Reads l → PlaysLines (with_line n q) (ls ++ l ∷ [])
  at_end ls l n (Ok v) c h r = All-push Reads ls l h r
  at_end ls l n (Err (stop.Fault e)) c h r = record { before = ls; here = l; behind = []; whole = refl; counted = c; read = h; why = no_reason l e r }
  at_end ls l n (Err stop.NoMemory) c h r = tt

  at_fault : (ls : List (List ℕ)) (l : List ℕ) (more : List (List ℕ)) (n : ℕ) (e : Stop) → n ≡ length ls + 1 → AllByRecursion Reads ls → Followed {V = S} l (Err e) → PlaysLines {V = V} (with_line n (Err e)) (ls ++ l ∷ more)
  at_fault ls l more n (stop.Fault e) c h w = record { before = ls; here = l; behind = more; whole = refl; counted = c; read = h; why = w }
  at_fault ls l more n stop.NoMemory c h w = tt

  -- behind lines that read
  from_here : (ls : List (List ℕ)) (l : List ℕ) (more : List (List ℕ)) (n : ℕ) (s : S) (r : Result V Error) → n ≡ length ls → AllByRecursion Reads ls → Runs (λ _ _ t q. Followed t q) ends n s (l ∷ more) r → PlaysLines r (ls ++ l ∷ more)
  unfolding Runs
  from_here ls l more n s r c h (Err e, w, x) =
      let P : Result V Error → Type 0 = λ y. PlaysLines y (ls ++ l ∷ more) in
      subst P (sym x) (at_fault ls l more (n + 1) e (ap (λ k. k + 1) c) h w)
  from_here ls l [] n s r c h (Ok t, w, (q, _, x)) =
      let P : Result V Error → Type 0 = λ y. PlaysLines y (ls ++ l ∷ []) in
      subst P (sym x) (at_end ls l (n + 1) q (ap (λ k. k + 1) c) h w)
  from_here ls l (m ∷ more) n s r c h (Ok t, w, x) =
      let P : List (List ℕ) → Type 0 = λ y. PlaysLines r y in
      subst P (append_assoc ls (l ∷ []) (m ∷ more)) (from_here (ls ++ l ∷ []) m more (n + 1) t r (ap (λ k. k + 1) c ∙ sym (length-append ls (l ∷ []))) (All-push Reads ls l h w) x)

some_first : (ls : List (List ℕ)) (n : ℕ) → length ls ≡ n + 1 → (l : List ℕ) × (more : List (List ℕ)) × (ls ≡ l ∷ more)
some_first [] n h = absurd (omega (arith, h))
some_first (l ∷ ls) n h = (l, ls, refl)

-- a script has a first line
first : (s : List ℕ) → (l : List ℕ) × (more : List (List ℕ)) × (lines_of s ≡ l ∷ more)
unfolding pieces
first s = some_first (lines_of s) _ (length-slice_split (λ b. b == 10) s)

pub whole : {S V : Type 0} (ends : Ends S V) (s : S) (script : List ℕ) (r : Result V Error) → Runs (λ _ _ t q. Followed t q) ends 0 s (lines_of script) r → Plays r script
whole ends s script r h =
    let p = first script in
    let P : List (List ℕ) → Type 0 = λ ls. Runs (λ _ _ t q. Followed t q) ends 0 s ls r in
    let Q : List (List ℕ) → Type 0 = λ ls. PlaysLines r ls in
    subst Q (sym p.2) (from_here ends [] p.0 p.1 0 s r refl tt (subst P p.2 h))

-- what is read by the stage is played as the definition says
pub read_plays : (script : List ℕ) (r : Result (Vec Event Global) Error) → Runs {S = Stage} (λ _ _ t q. Followed t q) Concludes 0 Dark (lines_of script) r → Plays r script
read_plays script r h = whole Concludes Dark script r h
