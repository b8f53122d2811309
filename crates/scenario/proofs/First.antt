-- The first fault of a script.
use Rattle.std.proofs.Common.{◌≡◌, ℕ, suc, ◌+◌, Bool, true, false, cond, ◌⊎◌, List, [], ◌∷◌, take, Ok, Err, Result, sym, refl, ap, ◌∙◌, inl, inr, ⊎_elim, arith}
use Rattle.timing.specs.declared.refusal.Refusal.{Refusal}
use Rattle.timing.specs.declared.refusal.Refusal.TheVariants.{Malformed}
use Rattle.script.specs.Commands.{line_of}
use Rattle.script.specs.Text.{words, lines_of}
use Rattle.script.specs.declared.error.Fault.{Fault}
use Rattle.scenario.specs.Laws.{ran, AtLine, NoEnd, FaultIsFirst}
use Rattle.scenario.specs.Plays.{fault_at, played}
use Rattle.scenario.specs.States.{State, start, stepped}
use Rattle.scenario.proofs.Lines.{onward, played_line, lines_end}

abbrev Stops : (n : ℕ) → State → List (List ℕ) → Fault → Type 0
Stops n s ls f = ((k : ℕ) × AtLine n s ls f k) ⊎ NoEnd n s ls f

ran_line : (n : ℕ) (s t : State) (l : List ℕ) (ls : List (List ℕ)) → stepped (n + 1) s (line_of (words l)) ≡ Ok t → ran n s (l ∷ ls) ≡ ran (n + 1) t ls
unfolding ran
ran_line n s t l ls h = ap (λ (r : Result State Refusal). elim r [ Ok u ↦ ran (n + 1) u ls | Err e ↦ Err e ]) h

ran_none : (n : ℕ) (s : State) → ran n s [] ≡ Ok s
unfolding ran
ran_none n s = refl

ends : (n : ℕ) (s : State) (f : Fault) (b : Bool) → s.ended ≡ b → cond b (Ok s.heard) (Err (fault_at n Malformed)) ≡ Err f → NoEnd n s [] f
ends n s f true h e = let z : ◌≡◌ {A = ℕ} 0 1 = cc in absurd (omega arith)
ends n s f false h e =
    let q : fault_at n Malformed ≡ f = cc in
    let m : f.line ≡ n = sym (ap (λ x. x.line) q) in
    record { left = s; place = omega arith; before = ran_none n s; endless = h; refused = sym (ap (λ x. x.refusal) q) }

here : (n : ℕ) (s : State) (l : List ℕ) (ls : List (List ℕ)) (f : Fault) (e : Refusal) → stepped (n + 1) s (line_of (words l)) ≡ Err e → fault_at (n + 1) e ≡ f → AtLine n s (l ∷ ls) f 0
here n s l ls f e h q =
    let m : f.line ≡ n + 1 = sym (ap (λ x. x.line) q) in
    record {
      left = s;
      place = m;
      within = omega arith;
      before = ran_none n s;
      refused = ap (λ x. stepped x s (line_of (words l))) m ∙ h ∙ ap (λ x. Err x.refusal) q;
    }

later : (n : ℕ) (s t : State) (l : List ℕ) (ls : List (List ℕ)) (f : Fault) (k : ℕ) → stepped (n + 1) s (line_of (words l)) ≡ Ok t → AtLine (n + 1) t ls f k → AtLine n s (l ∷ ls) f (suc k)
later n s t l ls f k h a =
    record {
      left = a.left;
      place = omega (arith, a.place);
      within = omega (arith, a.within);
      before = ran_line n s t l (take k ls) h ∙ a.before;
      refused = a.refused;
    }

endless : (n : ℕ) (s t : State) (l : List ℕ) (ls : List (List ℕ)) (f : Fault) → stepped (n + 1) s (line_of (words l)) ≡ Ok t → NoEnd (n + 1) t ls f → NoEnd n s (l ∷ ls) f
endless n s t l ls f h a =
    record { left = a.left; place = omega (arith, a.place); before = ran_line n s t l ls h ∙ a.before; endless = a.endless; refused = a.refused }

by : (n : ℕ) (s : State) (l : List ℕ) (ls : List (List ℕ)) (f : Fault) → ((t : State) → played (n + 1) t ls ≡ Err f → Stops (n + 1) t ls f) →
    (r : Result State Refusal) → stepped (n + 1) s (line_of (words l)) ≡ r → onward n ls r ≡ Err f → Stops n s (l ∷ ls) f
by n s l ls f more (Ok t) h q = ⊎_elim (λ a. inl (suc a.0, later n s t l ls f a.0 h a.1)) (λ a. inr (endless n s t l ls f h a)) (more t q)
by n s l ls f more (Err x) h q = inl (0, here n s l ls f x h (cc))

stops : (n : ℕ) (s : State) (ls : List (List ℕ)) (f : Fault) → played n s ls ≡ Err f → Stops n s ls f
stops n s [] f e = inr (ends n s f s.ended refl (sym (lines_end n s) ∙ e))
stops n s (l ∷ ls) f e = by n s l ls f (λ t q. stops (n + 1) t ls f q) (stepped (n + 1) s (line_of (words l))) refl (sym (played_line n s l ls) ∙ e)

pub first_fault : FaultIsFirst
first_fault b f e = stops 0 start (lines_of b) f e
