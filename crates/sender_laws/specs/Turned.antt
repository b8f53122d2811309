-- The disclosures of a run that are in turn, those with messages and those by themselves up to the last interval, are one sequence of turns.
use Rattle.std.specs.Prelude.{◌≡◌, ℕ, ◌*◌, ◌<◌, ◌≤◌, cond, List, [], ◌∷◌, ◌++◌, map, length, take, ◌==◌, nat_le, nat_lt}
use mathlib.Core.List.{Memᴰ}
use Rattle.turns.specs.Turns.{disclosures}
use Rattle.turns.specs.Laws.{Caught, OneNewest}
use Rattle.sender.specs.State.{State, interval, newest, advanced, due, may_not}
use Rattle.sender_laws.specs.Run.{Event, tick, say, step, tells}

-- the newest that may be disclosed, if there is one
abbrev pub some : (newest : ℕ) → List ℕ
some n = cond (n == 0) [] (n ∷ [])

-- the same, where an event discloses in turn
abbrev pub asks : State → Event → List ℕ
asks s (tick t) = cond (nat_lt t s.clock) [] (cond (due (advanced s t)) (cond (nat_le (interval (advanced s t)) s.numbers.last) (some (newest (advanced s t))) []) [])
asks s (say text) = cond (nat_lt 200 (length text)) [] (cond (may_not s) [] (some (newest s)))

abbrev pub all_asks : State → List Event → List ℕ
all_asks s [] = []
all_asks s (e ∷ es) = asks s e ++ all_asks (step s e) es

-- the intervals whose keys are disclosed there
abbrev pub all_answers : State → List Event → List ℕ
all_answers s [] = []
all_answers s (e ∷ es) = map (λ _. tells s e) (asks s e) ++ all_answers (step s e) es

abbrev pub InTurn : Type 0
InTurn = (s : State) (es : List Event) → all_answers s es ≡ disclosures s.turn (all_asks s es)

-- What an event discloses out of turn is the newest.
abbrev pub OutOfTurn : Type 0
OutOfTurn = (s : State) (e : Event) → asks s e ≡ [] → 0 < tells s e → tells s e ≡ newest (step s e)

-- Of any two disclosures in a row one is the newest.
abbrev pub OneOfTwo : Type 0
OneOfTwo = (s : State) (es : List Event) → OneNewest (all_answers s es) (all_asks s es)

-- Of any 32 in a row, each multiple of 1,024 that might be disclosed before the first of them is one.
abbrev pub AllWithin : Type 0
AllWithin = (s : State) (es : List Event) (k : ℕ) → 0 < s.numbers.ticks → s.numbers.last ≤ 16384 → 0 < k → 1024 * k ≤ newest s → 32 ≤ length (all_asks s es) →
    Memᴰ (1024 * k) (take 32 (all_answers s es))

-- A receiver that heard 62 in a row had the newest key again after one of them, whatever key r it had.
abbrev pub HeardAgain : Type 0
HeardAgain = (s : State) (es : List Event) (r : ℕ) → 0 < s.numbers.ticks → s.numbers.last ≤ 16384 → r ≤ newest s → 62 ≤ length (all_asks s es) → Caught s.turn r (all_asks s es)
