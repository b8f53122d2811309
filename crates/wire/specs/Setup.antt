-- Settings, over lists of numbers: the first tick's date (8), ticks of an interval (2), disclosure delay (1), error of a clock (2),
-- last interval (2), key 0 (32).
use Rattle.std.specs.Prelude.{ℕ, cond, List, ◌∷◌, ◌++◌, length, drop, Ok, Err, Result, ◌==◌, slice_index}
use Rattle.timing.specs.Time.{Params, params, in_range}
use Rattle.timing.specs.declared.refusal.Refusal.{Refusal}
use Rattle.timing.specs.declared.refusal.Refusal.TheVariants.{Malformed, BadSettings}
use Rattle.wire.specs.Bytes.{two, two_at, eight, eight_at}

pub record Setup : Type 0 where
  pub start : ℕ
  pub numbers : Params
  pub commitment : List ℕ

abbrev pub setup : (start : ℕ) → Params → (commitment : List ℕ) → Setup
setup d n k = record { start = d; numbers = n; commitment = k }

abbrev pub settings_encoded : Setup → List ℕ
settings_encoded s =
    eight s.start ++ (two s.numbers.ticks ++ (s.numbers.delay ∷ (two s.numbers.error ++ (two s.numbers.last ++ s.commitment))))

abbrev pub setup_in : List ℕ → Setup
setup_in b = record { start = eight_at b 0; numbers = params (two_at b 8) (slice_index b 10) (two_at b 11) (two_at b 13); commitment = drop 15 b }

-- a bad length comes before bad numbers
abbrev pub settings_answer : List ℕ → Result Setup Refusal
settings_answer b = cond (length b == 47) (cond (in_range (setup_in b).numbers) (Ok (setup_in b)) (Err BadSettings)) (Err Malformed)
