-- Clocks that are set, and messages that reach receivers.
use Rattle.std.specs.Prelude.{ℕ, ◌+◌, ◌-◌, Bool, cond, ◌&&◌, List, [], ◌∷◌, length, replicate, Ok, Err, Result, nat_le, nat_lt, slice_index, slice_set}
use Rattle.timing.specs.Judged.{judged}
use Rattle.timing.specs.Time.{Params}
use Rattle.timing.specs.declared.refusal.Refusal.{Refusal}
use Rattle.timing.specs.declared.refusal.Refusal.TheVariants.{OutOfRange, ClockBack}
use Rattle.scenario.specs.declared.arrival.Arrival.{Arrival}

-- there are 1 to 10000 receivers, and their clocks start at 0
abbrev pub at_zero : (count : ℕ) → Result (List ℕ) Refusal
at_zero n = cond (nat_le 1 n && nat_le n 10000) (Ok (replicate n 0)) (Err OutOfRange)

abbrev pub is_receiver : (clocks : List ℕ) → (receiver : ℕ) → Bool
is_receiver cs r = nat_le 1 r && nat_le r (length cs)

-- receivers count from 1
abbrev pub clock_answer : (clocks : List ℕ) → (receiver tick : ℕ) → Result Unit Refusal
clock_answer cs r t = cond (is_receiver cs r) (cond (nat_lt t (slice_index cs (r - 1))) (Err ClockBack) (Ok tt)) (Err OutOfRange)

abbrev pub clock_after : (clocks : List ℕ) → (receiver tick : ℕ) → List ℕ
clock_after cs r t = cond (is_receiver cs r) (cond (nat_lt t (slice_index cs (r - 1))) cs (slice_set cs (r - 1) t)) cs

-- what each receiver makes of a message, by its clock
unfoldable pub arrivals : Params → (line interval receiver : ℕ) → (clocks : List ℕ) → List Arrival
arrivals p l i r [] = []
arrivals p l i r (c ∷ cs) = record { line = l; interval = i; receiver = r; clock = c; judgement = judged p c i } ∷ arrivals p l i (r + 1) cs
