-- What is true of every script, apart from how it is followed.
use Rattle.std.specs.Prelude.{◌≡◌, ℕ, suc, ◌+◌, ◌<◌, ◌≤◌, true, false, ◌⊎◌, List, [], ◌∷◌, length, take, Ok, Err, Result, slice_index_or}
use Rattle.timing.specs.Judged.{judged}
use Rattle.timing.specs.Time.{Params, in_range}
use Rattle.timing.specs.declared.refusal.Refusal.{Refusal}
use Rattle.timing.specs.declared.refusal.Refusal.TheVariants.{Malformed}
use Rattle.script.specs.Commands.{line_of}
use Rattle.script.specs.Text.{words, lines_of}
use Rattle.scenario.specs.declared.arrival.Arrival.{Arrival}
use Rattle.script.specs.declared.error.Fault.{Fault}
use Rattle.scenario.specs.Plays.{playing}
use Rattle.scenario.specs.States.{State, start, stepped}

-- a message of an interval that there is, and what it comes to is what the settings say at the receiver's clock
abbrev pub Right : Params → Arrival → Type 0
Right p a = (a.judgement ≡ judged p a.clock a.interval) × (1 ≤ a.interval) × (a.interval ≤ p.last)

abbrev pub AllRight : Params → List Arrival → Type 0
AllRight p [] = Unit {0}
AllRight p (a ∷ hs) = Right p a × AllRight p hs

-- some settings within their limits say all of it
abbrev pub JudgedBySettings : List Arrival → Type 0
JudgedBySettings hs = (p : Params) × (in_range p ≡ true) × AllRight p hs

-- lines after the first n, none of which is at fault
unfoldable pub ran : (n : ℕ) → State → (lines : List (List ℕ)) → Result State Refusal
ran n s [] = Ok s
ran n s (l ∷ ls) = elim (stepped (n + 1) s (line_of (words l))) [ Ok t ↦ ran (n + 1) t ls | Err e ↦ Err e ]

-- the k lines before the fault's are followed, and its own is refused
pub record AtLine (n : ℕ) (s : State) (ls : List (List ℕ)) (f : Fault) (k : ℕ) : Type 0 where
  pub left : State
  pub place : f.line ≡ n + suc k
  pub within : k < length ls
  pub before : ran n s (take k ls) ≡ Ok left
  pub refused : stepped f.line left (line_of (words (slice_index_or ls k []))) ≡ Err f.refusal

-- every line is followed, and there is no `end` among them
pub record NoEnd (n : ℕ) (s : State) (ls : List (List ℕ)) (f : Fault) : Type 0 where
  pub left : State
  pub place : f.line ≡ n + length ls
  pub before : ran n s ls ≡ Ok left
  pub endless : left.ended ≡ false
  pub refused : f.refusal ≡ Malformed

-- a fault is at the first line that is refused, or at the last where `end` is missing
abbrev pub FaultIsFirst : Type 0
FaultIsFirst = (b : List ℕ) (f : Fault) → playing b ≡ Err f → ((k : ℕ) × AtLine 0 start (lines_of b) f k) ⊎ NoEnd 0 start (lines_of b) f
