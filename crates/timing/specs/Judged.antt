-- What a message comes to by time.
use Rattle.std.specs.Prelude.{ℕ, cond, Ok, Err, Result}
use Rattle.timing.specs.declared.refusal.Refusal.{Refusal}
use Rattle.timing.specs.declared.refusal.Refusal.TheVariants.{TooLate, TooEarly}
use Rattle.timing.specs.Time.{Params, may_be_out, too_early}

abbrev pub judged : Params → (clock interval : ℕ) → Result Unit Refusal
judged p c i = cond (may_be_out p c i) (Err TooLate) (cond (too_early p c i) (Err TooEarly) (Ok tt))
