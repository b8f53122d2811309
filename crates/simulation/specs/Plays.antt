-- Which scripts are played, and where the fault of another is.
use Rattle.std.specs.Prelude.{◌≡◌, ℕ, ◌+◌, true, List, ◌∷◌, ◌++◌, length, is_ok, Ok, Err, Result, Vec}
use Rattle.std.specs.List.{AllByRecursion}
use Rattle.std.specs.declared.alloc.Global.{Global}
use Rattle.timing.specs.declared.refusal.Refusal.{Refusal}
use Rattle.timing.specs.declared.refusal.Refusal.TheVariants.{Malformed}
use Rattle.script.specs.Text.{lines_of}
use Rattle.script.specs.declared.stop.Stop.{Stop}
use Rattle.script.specs.declared.stop.Stop.TheVariants as stop
use Rattle.script.specs.declared.error.Error.{Error}
use Rattle.script.specs.declared.error.Error.TheVariants as error
use Rattle.orders.specs.Orders.{line_of}
use Rattle.hearings.specs.declared.event.Event.{Event}
use Rattle.simulation.specs.declared.stage.Stage.{Stage}
use Rattle.simulation.specs.declared.stage.Stage.TheVariants as stage

-- a line that is a command in its form, empty or a comment
abbrev pub Reads : List ℕ → Type 0
Reads t = is_ok (line_of t) ≡ true

-- where the line does not read, this is why
abbrev pub Why : List ℕ → Refusal → Type 0
Why t e = (x : Refusal) → line_of t ≡ Err x → e ≡ x

-- one line followed
abbrev pub Followed : {V : Type 0} → (text : List ℕ) → Result V Stop → Type 0
Followed t (Ok v) = Reads t
Followed t (Err (stop.Fault e)) = Why t e
Followed t (Err stop.NoMemory) = Unit {0}

-- the end of a script: what happened, where `end` was read
abbrev pub Concludes : Stage → Result (Vec Event Global) Stop → Type 0
Concludes (stage.Ended v) r = r ≡ Ok v
Concludes _ r = r ≡ Err (stop.Fault Malformed)

-- the line of a fault, counted from 1: every line before it reads, and where it does not read itself, this is why
pub record FirstFault (lines : List (List ℕ)) (line : ℕ) (refusal : Refusal) : Type 0 where
  pub before : List (List ℕ)
  pub here : List ℕ
  pub behind : List (List ℕ)
  pub whole : lines ≡ before ++ here ∷ behind
  pub counted : line ≡ length before + 1
  pub read : AllByRecursion Reads before
  pub why : Why here refusal

abbrev pub Refuses : Error → (lines : List (List ℕ)) → Type 0
Refuses (error.Faulty f) ls = FirstFault ls f.line f.refusal
Refuses error.NoMemory ls = Unit {0}

abbrev pub PlaysLines : {V : Type 0} → Result V Error → (lines : List (List ℕ)) → Type 0
PlaysLines (Ok v) ls = AllByRecursion Reads ls
PlaysLines (Err e) ls = Refuses e ls

-- of a script that is played every line reads
abbrev pub Plays : {V : Type 0} → Result V Error → (script : List ℕ) → Type 0
Plays r s = PlaysLines r (lines_of s)
