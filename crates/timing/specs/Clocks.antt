-- Clocks that are told ticks.
use Rattle.std.specs.Prelude.{ℕ, Bool, cond, not, ◌||◌, List, length, zip, Ok, Err, Result, ◌==◌, nat_lt}
use Rattle.std.specs.List.{list_any}
use Rattle.timing.specs.declared.refusal.Refusal.{Refusal}
use Rattle.timing.specs.declared.refusal.Refusal.TheVariants.{Malformed, ClockBack}

abbrev pub tick_answer : (clock tick : ℕ) → Result ℕ Refusal
tick_answer c t = cond (nat_lt t c) (Err ClockBack) (Ok t)

-- some tick is lower than its clock
abbrev pub goes_back : (clocks ticks : List ℕ) → Bool
goes_back cs ts = list_any (λ (p : ℕ × ℕ). nat_lt p.1 p.0) (zip cs ts)

abbrev pub clocks_answer : (clocks ticks : List ℕ) → Result Unit Refusal
clocks_answer cs ts = cond (not (length cs == length ts)) (Err Malformed) (cond (goes_back cs ts) (Err ClockBack) (Ok tt))

abbrev pub clocks_after : (clocks ticks : List ℕ) → List ℕ
clocks_after cs ts = cond (not (length cs == length ts) || goes_back cs ts) cs ts
