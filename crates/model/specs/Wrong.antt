-- Receivers that are wrong, each in one way.
use Rattle.std.specs.Prelude.{ℕ, ◌-◌, ◌*◌, cond, not, List, [], nat_le}
use Rattle.timing.specs.Time.{Params, params}
use Rattle.timing.specs.declared.refusal.Refusal.TheVariants.{NoRoom, OutOfRange, KeyNotAfter}
use Rattle.model.specs.Term.{MacFn}
use Rattle.model.specs.Receiver.{Said, ticked, heard, disclosed, Outcome, taken, refused, State, first_state, Receiver, ours, ticks, judge_tick, in_chain, judge, hears, judge_key, learns, delivers, is_taken, right_up_to, later_than, steps}

-- tests by its own clock, as if that were never wrong
abbrev pub without_clock_error : Params → MacFn → Receiver
without_clock_error p m = ours (params p.ticks p.delay 0 p.last) m

-- counts the clock's error twice
abbrev pub twice_the_error : Params → MacFn → Receiver
twice_the_error p m = ours (params p.ticks p.delay (2 * p.error) p.last) m

-- buffers no message
abbrev pub keeps_nothing : Params → MacFn → Receiver
keeps_nothing p m = record {
  Held = State;
  first = first_state;
  after = λ e s. elim e [ ticked t ↦ ticks t s | heard x j k ↦ learns p m j k s | disclosed j k ↦ learns p m j k s ];
  outcome = λ e s. elim e [ ticked t ↦ judge_tick t s | heard x j k ↦ refused NoRoom | disclosed j k ↦ judge_key p m j k s ];
  delivered = λ e s. elim e [ ticked t ↦ [] | heard x j k ↦ delivers p m j k s | disclosed j k ↦ delivers p m j k s ];
  steps = steps p;
  newest_of = λ s. s.newest;
  buffer_of = λ s. s.buffer;
}

-- the rule for keys without the comparison
abbrev pub judge_any_key : Params → (interval : ℕ) → State → Outcome
judge_any_key p j s = cond (not (in_chain p j)) (refused OutOfRange) (cond (nat_le j s.newest) (refused KeyNotAfter) taken)

abbrev pub learns_any : Params → (interval : ℕ) → (key : List ℕ) → State → State
learns_any p j k s = cond (is_taken (judge_any_key p j s)) (record { clock = s.clock; newest = j; key = k; buffer = later_than j s.buffer }) s

abbrev pub delivers_any : Params → MacFn → (interval : ℕ) → (key : List ℕ) → State → List Said
delivers_any p m j k s = cond (is_taken (judge_any_key p j s)) (right_up_to m k (j - s.newest) j s.buffer) []

-- takes any key of a later interval
abbrev pub takes_any_key : Params → MacFn → Receiver
takes_any_key p m = record {
  Held = State;
  first = first_state;
  after = λ e s. elim e [ ticked t ↦ ticks t s | heard x j k ↦ learns_any p j k (hears p x s) | disclosed j k ↦ learns_any p j k s ];
  outcome = λ e s. elim e [ ticked t ↦ judge_tick t s | heard x j k ↦ judge p s x | disclosed j k ↦ judge_any_key p j s ];
  delivered = λ e s. elim e [ ticked t ↦ [] | heard x j k ↦ delivers_any p m j k (hears p x s) | disclosed j k ↦ delivers_any p m j k s ];
  steps = steps p;
  newest_of = λ s. s.newest;
  buffer_of = λ s. s.buffer;
}

-- looks at the key behind a message before the message
abbrev pub key_first : Params → MacFn → Receiver
key_first p m = record {
  Held = State;
  first = first_state;
  after = λ e s. elim e [ ticked t ↦ ticks t s | heard x j k ↦ hears p x (learns p m j k s) | disclosed j k ↦ learns p m j k s ];
  outcome = λ e s. elim e [ ticked t ↦ judge_tick t s | heard x j k ↦ judge p (learns p m j k s) x | disclosed j k ↦ judge_key p m j k s ];
  delivered = λ e s. elim e [ ticked t ↦ [] | heard x j k ↦ delivers p m j k s | disclosed j k ↦ delivers p m j k s ];
  steps = steps p;
  newest_of = λ s. s.newest;
  buffer_of = λ s. s.buffer;
}
