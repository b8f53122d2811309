-- Runs of a sender, and what is promised of them.
use Rattle.std.specs.Prelude.{◌≡◌, ℕ, ◌+◌, ◌<◌, ◌≤◌, cond, ◌⊎◌, List, [], ◌∷◌, ◌++◌, nat_lt}
use mathlib.Core.List.{Memᴰ}
use Rattle.timing.specs.Time.{Params, interval_at, release}
use Rattle.model.specs.Receiver.{Said}
use Rattle.segments.specs.Work.{part_work, times}
use Rattle.sender.specs.State.{State, first_state, interval, work_at, ticked, tick_answer, Ticked, back, nothing, told, said, say_answer, Spoken, refused, sent}

-- what a sender is asked for
pub data Event : Type 0 where
  tick : (t : ℕ) → Event
  say : (text : List ℕ) → Event

abbrev pub step : State → Event → State
step s (tick t) = ticked s t
step s (say text) = said s text

-- what is said in a run, in order
abbrev pub said_by : Spoken → List Said
said_by (refused e) = []
said_by (sent x) = x.message.says ∷ []

abbrev pub sayings : State → Event → List Said
sayings s (tick t) = []
sayings s (say text) = said_by (say_answer s text)

abbrev pub everything_said : State → List Event → List Said
everything_said s [] = []
everything_said s (e ∷ es) = sayings s e ++ everything_said (step s e) es

abbrev pub Before : Said → Said → Type 0
Before x y = (x.interval < y.interval) ⊎ ((x.interval ≡ y.interval) × (x.index < y.index))

abbrev pub Ordered : List Said → Type 0
Ordered [] = Unit {0}
Ordered (x ∷ xs) = ((y : Said) → Memᴰ y xs → Before x y) × Ordered xs

-- No index of an interval is used twice: interval and index rise through every run.
abbrev pub NoTwice : Type 0
NoTwice = (s : State) (es : List Event) → 0 < s.numbers.ticks → Ordered (everything_said s es)

-- the interval whose key is disclosed, 0 for none
abbrev pub told_by_tick : Ticked → ℕ
told_by_tick back = 0
told_by_tick nothing = 0
told_by_tick (told k) = k.interval

abbrev pub told_by_said : Spoken → ℕ
told_by_said (refused e) = 0
told_by_said (sent x) = x.behind.interval

abbrev pub tells : State → Event → ℕ
tells s (tick t) = told_by_tick (tick_answer s t)
tells s (say text) = told_by_said (say_answer s text)

-- No key is disclosed before its time, and none that isn't of the chain.
abbrev pub NoneEarly : Type 0
NoneEarly = (s : State) (e : Event) → 0 < tells s e → (release s.numbers (tells s e) ≤ interval (step s e)) × (tells s e ≤ s.numbers.last)

-- the intervals in which a key is sent by itself in a run, in order
abbrev pub alone_in : Ticked → (interval : ℕ) → List ℕ
alone_in back i = []
alone_in nothing i = []
alone_in (told k) i = i ∷ []

abbrev pub alones : State → Event → List ℕ
alones s (tick t) = alone_in (tick_answer s t) (interval (ticked s t))
alones s (say text) = []

abbrev pub all_alones : State → List Event → List ℕ
all_alones s [] = []
all_alones s (e ∷ es) = alones s e ++ all_alones (step s e) es

-- the intervals of the ticks that are not refused
abbrev pub entered : State → Event → List ℕ
entered s (tick t) = cond (nat_lt t s.clock) [] (interval_at s.numbers t ∷ [])
entered s (say text) = []

abbrev pub all_entered : State → List Event → List ℕ
all_entered s [] = []
all_entered s (e ∷ es) = entered s e ++ all_entered (step s e) es

-- each above the one before
abbrev pub Ascending : ℕ → List ℕ → Type 0
Ascending low [] = Unit {0}
Ascending low (x ∷ xs) = (low ≤ x) × Ascending (x + 1) xs

-- From the first state on, in no interval is more than one key sent by itself; in each of the intervals D + 2 to N + D + 1 in which a tick is given one is;
-- and in interval N + D + 1 it is key N.
pub record ByItself : Type 0 where
  pub at_most_one : (p : Params) (d : List ℕ) (es : List Event) → 0 < p.ticks → Ascending 1 (all_alones (first_state p d) es)
  pub at_least_one : (p : Params) (d : List ℕ) (es : List Event) (i : ℕ) → 0 < p.last → Memᴰ i (all_entered (first_state p d) es) →
      p.delay + 1 < i → i ≤ p.last + p.delay + 1 → Memᴰ i (all_alones (first_state p d) es)
  pub last_told : (s : State) (t : ℕ) → 0 < tells s (tick t) → interval (ticked s t) ≡ s.numbers.last + s.numbers.delay + 1 → tells s (tick t) ≡ s.numbers.last

-- the intervals whose keys are worked out in a run
abbrev pub worked : State → Event → List ℕ
worked s (tick t) = cond (nat_lt t s.clock) [] (work_at s t)
worked s (say text) = []

abbrev pub all_worked : State → List Event → List ℕ
all_worked s [] = []
all_worked s (e ∷ es) = worked s e ++ all_worked (step s e) es

-- In a life of the chain no key is worked out more than once after the chain was made: those of the first part, as it was made ready, and those of the parts that are entered.
abbrev pub WorkedOnce : Type 0
WorkedOnce = (p : Params) (d : List ℕ) (es : List Event) (x : ℕ) → 0 < p.ticks → p.delay ≤ 8 → times x (part_work p.last 0 ++ all_worked (first_state p d) es) ≤ 1
