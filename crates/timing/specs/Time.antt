-- Intervals of ticks, when a key may be out, and the limits of the settings.
use Rattle.std.specs.Prelude.{ℕ, ◌+◌, ◌-◌, ◌*◌, ◌/◌, Bool, ◌&&◌, nat_le, nat_lt}
use Rattle.timing.specs.declared.parameters.Parameters.{Parameters}

-- ticks: the seconds of an interval; delay: the key of interval i is disclosed in interval i + delay + 1 at the earliest;
-- error: how many ticks a receiver's clock may be wrong, either way; last: the last interval
pub record Params : Type 0 where
  pub ticks : ℕ
  pub delay : ℕ
  pub error : ℕ
  pub last : ℕ

abbrev pub params : (ticks delay error last : ℕ) → Params
params s d e n = record { ticks = s; delay = d; error = e; last = n }

abbrev pub parameters_of : Parameters → Params
parameters_of p = params p.ticks p.delay p.error p.last

abbrev pub in_range : Params → Bool
in_range p =
    (nat_le 1 p.ticks && nat_le p.ticks 3600) && ((nat_le 1 p.delay && nat_le p.delay 8) && ((nat_le 1 p.last && nat_le p.last 16384) && nat_lt (2 * p.error) (p.ticks * p.delay)))

-- intervals count from 1
abbrev pub interval_at : Params → (tick : ℕ) → ℕ
interval_at p t = t / p.ticks + 1

-- the first tick of an interval
abbrev pub opening : Params → (interval : ℕ) → ℕ
opening p i = (i - 1) * p.ticks

-- the first interval in which the key of an interval may be disclosed
abbrev pub release : Params → (interval : ℕ) → ℕ
release p i = i + p.delay + 1

-- the safety test: by the latest that the real time can be, the release of the key has begun
abbrev pub may_be_out : Params → (clock interval : ℕ) → Bool
may_be_out p c i = nat_le (release p i) (interval_at p (c + p.error))

-- the interval begins more than the clock's error after what it shows
abbrev pub too_early : Params → (clock interval : ℕ) → Bool
too_early p c i = nat_lt (c + p.error) (opening p i)
