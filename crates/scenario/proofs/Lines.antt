-- Scripts, one line at a time.
use Rattle.std.proofs.Common.{◌≡◌, ℕ, ◌+◌, Bool, true, false, cond, List, [], ◌∷◌, Ok, Err, Result, Vec, vec_items, refl, ap, ◌∙◌}
use Rattle.timing.specs.declared.refusal.Refusal.{Refusal}
use Rattle.scenario.specs.declared.arrival.Arrival.{Arrival}
use Rattle.script.specs.declared.error.Error.{Error}
use Rattle.script.specs.declared.error.Fault.{Fault}
use Rattle.script.specs.Commands.{line_of}
use Rattle.scenario.specs.Plays.{fault_at, concluded, played, playing, Plays}
use Rattle.scenario.specs.States.{State, state_of, stepped, ended}
use Rattle.scenario.specs.declared.scene.Scene.{Scene}
use Rattle.scenario.specs.declared.scene.Scene.TheVariants.{Bare}
use Rattle.script.specs.Reading.{Steps, Ends, Onward, Runs}
use Rattle.script.specs.Stops.{Gives, with_line}
use Rattle.script.specs.Text.{words, lines_of}
use Rattle.script.specs.declared.stop.Stop.{Stop}
use Rattle.script.specs.declared.stop.Stop.TheVariants as stop
use Rattle.std.specs.declared.alloc.Global.{Global}
use Rattle.timing.specs.declared.refusal.Refusal.TheVariants.{Malformed}

abbrev pub onward : (n : ℕ) → (lines : List (List ℕ)) → Result State Refusal → Result (List Arrival) Fault
onward n ls (Ok t) = played (n + 1) t ls
onward n ls (Err e) = Err (fault_at (n + 1) e)

pub played_line : (n : ℕ) (s : State) (l : List ℕ) (ls : List (List ℕ)) → played n s (l ∷ ls) ≡ onward n ls (stepped (n + 1) s (line_of (words l)))
unfolding played
played_line n s l ls = refl

pub line_done : (n : ℕ) (s t : State) (l : List ℕ) (ls : List (List ℕ)) → stepped (n + 1) s (line_of (words l)) ≡ Ok t → played n s (l ∷ ls) ≡ played (n + 1) t ls
line_done n s t l ls h = played_line n s l ls ∙ ap (onward n ls) h

line_fault : (n : ℕ) (s : State) (e : Refusal) (l : List ℕ) (ls : List (List ℕ)) → stepped (n + 1) s (line_of (words l)) ≡ Err e → played n s (l ∷ ls) ≡ Err (fault_at (n + 1) e)
line_fault n s e l ls h = played_line n s l ls ∙ ap (onward n ls) h

pub lines_end : (n : ℕ) (s : State) → played n s [] ≡ concluded n s
unfolding played
lines_end n s = refl

abbrev pub steps : Steps Scene
steps s n t r = Gives state_of r (stepped n (state_of s) (line_of (words t)))

abbrev pub ends : Ends Scene (Vec Arrival Global)
ends s r = Gives vec_items r (ended (state_of s))

end_plays : (n : ℕ) (b : Bool) (hs : List Arrival) (q : Result (Vec Arrival Global) Stop) (r : Result (Vec Arrival Global) Error) →
    Gives vec_items q (cond b (Ok hs) (Err Malformed)) → r ≡ with_line n q → Plays r (cond b (Ok hs) (Err (fault_at n Malformed)))
end_plays n true hs (Ok v) r h e = let k : hs ≡ vec_items v = cc in rw (e, k) refl
end_plays n true hs (Err (stop.Fault x)) r h e = cc
end_plays n true hs (Err stop.NoMemory) r h e = rw (e) tt
end_plays n false hs (Ok v) r h e = cc
end_plays n false hs (Err (stop.Fault x)) r h e = let k : Malformed ≡ x = cc in rw (e, k) refl
end_plays n false hs (Err stop.NoMemory) r h e = rw (e) tt

line_plays : (n : ℕ) (s : Scene) (l : List ℕ) (ls : List (List ℕ)) (more : Scene → Type 0) (q : Result Scene Stop) (r : Result (Vec Arrival Global) Error) →
    ((t : Scene) → more t → Plays r (played (n + 1) (state_of t) ls)) → steps s (n + 1) l q → Onward (n + 1) more q r → Plays r (played n (state_of s) (l ∷ ls))
line_plays n s l ls more (Ok t) r k h m = rw (line_done n (state_of s) (state_of t) l ls h) (k t m)
line_plays n s l ls more (Err (stop.Fault e)) r k h m = rw (m, line_fault n (state_of s) e l ls h) refl
line_plays n s l ls more (Err stop.NoMemory) r k h m = rw (m) tt

-- what is read by the scene is what the definition says
runs_plays : (n : ℕ) (s : Scene) (ls : List (List ℕ)) (r : Result (Vec Arrival Global) Error) → Runs steps ends n s ls r → Plays r (played n (state_of s) ls)
unfolding Runs
runs_plays n s [] r x = rw (lines_end n (state_of s)) (end_plays n (state_of s).ended (state_of s).heard x.0 r x.1 x.2)
runs_plays n s (l ∷ ls) r x = line_plays n s l ls (λ t. Runs steps ends (n + 1) t ls r) x.0 r (λ t y. runs_plays (n + 1) t ls r y) x.1 x.2

pub read_plays : (b : List ℕ) (r : Result (Vec Arrival Global) Error) → Runs steps ends 0 Bare (lines_of b) r → Plays r (playing b)
read_plays b r h = runs_plays 0 Bare (lines_of b) r h
