-- The number of every refusal, and of an answer.
use Rattle.std.specs.Prelude.{ℕ, Ok, Err, Result}
use Rattle.timing.specs.declared.refusal.Refusal.{Refusal}
use Rattle.timing.specs.declared.refusal.Refusal.TheVariants.{Malformed, OutOfRange, TooLate, KeyHad, TooEarly, NoRoom, KeyNotAfter, KeyTooFar, KeyMisfit, ClockBack, BadSettings}

abbrev pub refusal_number : Refusal → ℕ
refusal_number Malformed = 1
refusal_number OutOfRange = 2
refusal_number TooLate = 3
refusal_number KeyHad = 4
refusal_number TooEarly = 5
refusal_number NoRoom = 6
refusal_number KeyNotAfter = 7
refusal_number KeyTooFar = 8
refusal_number KeyMisfit = 9
refusal_number ClockBack = 10
refusal_number BadSettings = 11

-- 0 where nothing is refused
abbrev pub number_of : {T : Type 0} → Result T Refusal → ℕ
number_of (Ok x) = 0
number_of (Err e) = refusal_number e
