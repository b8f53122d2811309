-- A result of the code beside what a definition says.
use Rattle.std.specs.Prelude.{◌≡◌, ℕ, Ok, Err, Result}
use Rattle.timing.specs.declared.refusal.Refusal.{Refusal}
use Rattle.script.specs.declared.error.Error.{Error}
use Rattle.script.specs.declared.error.Error.TheVariants as error
use Rattle.script.specs.declared.stop.Stop.{Stop}
use Rattle.script.specs.declared.stop.Stop.TheVariants.{Fault, NoMemory}

-- the value is the definition's, and so is the refusal; for want of memory nothing is said
abbrev pub Gives : {V X : Type 0} → (V → X) → Result V Stop → Result X Refusal → Type 0
Gives f (Ok v) s = s ≡ Ok (f v)
Gives f (Err (Fault e)) s = s ≡ Err e
Gives f (Err NoMemory) s = Unit {0}

-- the same with the number of its line
abbrev pub at_line : (line : ℕ) → Stop → Error
at_line n (Fault e) = error.Faulty (record { line = n; refusal = e })
at_line n NoMemory = error.NoMemory

abbrev pub with_line : {V : Type 0} → (line : ℕ) → Result V Stop → Result V Error
with_line n (Ok v) = Ok v
with_line n (Err e) = Err (at_line n e)
