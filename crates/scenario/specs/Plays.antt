-- Scripts, played whole or not at all.
use Rattle.std.specs.Prelude.{◌≡◌, ℕ, ◌+◌, cond, List, [], ◌∷◌, Ok, Err, vec_items, Result, Vec}
use Rattle.std.specs.declared.alloc.Global.{Global}
use Rattle.timing.specs.declared.refusal.Refusal.{Refusal}
use Rattle.timing.specs.declared.refusal.Refusal.TheVariants.{Malformed}
use Rattle.scenario.specs.declared.arrival.Arrival.{Arrival}
use Rattle.script.specs.declared.error.Error.{Error}
use Rattle.script.specs.declared.error.Error.TheVariants.{Faulty, NoMemory}
use Rattle.script.specs.declared.error.Fault.{Fault}
use Rattle.script.specs.Commands.{line_of}
use Rattle.scenario.specs.States.{State, start, stepped}
use Rattle.script.specs.Text.{words, lines_of}

abbrev pub fault_at : (line : ℕ) → Refusal → Fault
fault_at n e = record { line = n; refusal = e }

-- what was heard, if the script has its end; else the last line is at fault
abbrev pub concluded : (lines : ℕ) → State → Result (List Arrival) Fault
concluded n s = cond s.ended (Ok s.heard) (Err (fault_at n Malformed))

-- the lines that follow the first n, which left this state
unfoldable pub played : (n : ℕ) → State → (lines : List (List ℕ)) → Result (List Arrival) Fault
played n s [] = concluded n s
played n s (l ∷ ls) = elim (stepped (n + 1) s (line_of (words l))) [ Ok t ↦ played (n + 1) t ls | Err e ↦ Err (fault_at (n + 1) e) ]

-- what a script's messages come to, or its first fault; lines count from 1
abbrev pub playing : (script : List ℕ) → Result (List Arrival) Fault
playing b = played 0 start (lines_of b)

-- the code's result is the definition's; for want of memory nothing is said
abbrev pub Plays : Result (Vec Arrival Global) Error → Result (List Arrival) Fault → Type 0
Plays (Ok v) s = s ≡ Ok (vec_items v)
Plays (Err (Faulty f)) s = s ≡ Err f
Plays (Err NoMemory) s = Unit {0}
