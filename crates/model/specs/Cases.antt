-- Worked cases: events from a receiver's first state on, and what each comes to. Intervals of 60 ticks, delay 1, error 5, 4,000 intervals.
use Rattle.std.specs.Prelude.{◌≡◌, ℕ, zero, suc, ◌<◌, ◌≤◌, List, [], ◌∷◌, ◌++◌, ◌≢◌}
use Rattle.timing.specs.Time.{Params, params, interval_at, release}
use Rattle.model.specs.Term.{MacFn}
use Rattle.model.specs.Receiver.{Said, Event, ticked, heard, disclosed, State, first_state, message_bytes, walked, tag_bytes, after, outcome, outcome_number, delivered, steps}

abbrev pub hut : Params
hut = params 60 1 5 4000

-- what an event comes to: its number, what is delivered, how many keys are worked out
pub record Result : Type 0 where
  pub number : ℕ
  pub delivered : List Said
  pub steps : ℕ

abbrev pub result_of : MacFn → Event → State → Result
result_of m e s = record { number = outcome_number (outcome hut m e s); delivered = delivered hut m e s; steps = steps hut e s }

abbrev pub results : MacFn → List Event → State → List Result
results m [] s = []
results m (e ∷ es) s = result_of m e s ∷ results m es (after hut m e s)

pub record Row : Type 0 where
  pub events : List Event
  pub come_to : List Result

abbrev pub Holds : MacFn → (commitment : List ℕ) → List Row → Type 0
Holds m k [] = Unit {0}
Holds m k (r ∷ rs) = (results m r.events (first_state k) ≡ r.come_to) × Holds m k rs

-- quietly: nothing refused, nothing delivered, no key worked out
abbrev pub quiet : Result
quiet = record { number = 0; delivered = []; steps = 0 }

abbrev pub refusal : ℕ → Result
refusal n = record { number = n; delivered = []; steps = 0 }

abbrev pub said : (interval index : ℕ) → Said
said i n = record { interval = i; index = n; text = 65 ∷ [] }

-- a message of an interval, with its tag, and no key behind it
abbrev pub hear : (interval index : ℕ) → (tag : List ℕ) → Event
hear i n t = heard (record { says = said i n; tag = t }) 0 []

-- messages of interval 4, the last with index n
unfoldable pub flood : (tag : List ℕ) → (n : ℕ) → List Event
flood t zero = []
flood t (suc n) = flood t n ++ (hear 4 n t ∷ [])

unfoldable pub quietly : ℕ → List Result
quietly zero = []
quietly (suc n) = quiet ∷ quietly n

-- of a chain by its key 3; a made-up key; a wrong tag
abbrev pub rows : MacFn → (key3 made_up wrong : List ℕ) → List Row
rows m k3 k t =
    let k1 = walked m 2 k3 in
    let k2 = walked m 1 k3 in
    let tag = λ (i : ℕ) (k : List ℕ). tag_bytes m k (message_bytes (said i 0)) in
    -- A: kept at 110, too late at 115
    record { events = ticked 110 ∷ hear 1 0 (tag 1 k1) ∷ []; come_to = quiet ∷ quiet ∷ [] } ∷
    record { events = ticked 115 ∷ hear 1 0 (tag 1 k1) ∷ []; come_to = quiet ∷ refusal 3 ∷ [] } ∷
    -- B: key 1 comes at 120
    record { events = ticked 110 ∷ hear 1 0 (tag 1 k1) ∷ ticked 120 ∷ disclosed 1 k1 ∷ []; come_to = quiet ∷ quiet ∷ quiet ∷ record { number = 0; delivered = said 1 0 ∷ []; steps = 1 } ∷ [] } ∷
    -- C: keys 1 and 2 are lost, and key 3 comes
    record {
      events = ticked 30 ∷ hear 1 0 (tag 1 k1) ∷ ticked 90 ∷ hear 2 0 (tag 2 k2) ∷ ticked 150 ∷ hear 3 0 (tag 3 k3) ∷ ticked 300 ∷ disclosed 3 k3 ∷ [];
      come_to = quietly 7 ++ (record { number = 0; delivered = said 1 0 ∷ said 2 0 ∷ said 3 0 ∷ []; steps = 3 } ∷ []);
    } ∷
    -- D: a wrong tag is kept, and not believed
    record { events = ticked 100 ∷ hear 1 0 t ∷ ticked 120 ∷ disclosed 1 k1 ∷ []; come_to = quiet ∷ quiet ∷ quiet ∷ record { number = 0; delivered = []; steps = 1 } ∷ [] } ∷
    -- E: made-up keys
    record { events = disclosed 2000 k ∷ []; come_to = refusal 8 ∷ [] } ∷
    record { events = disclosed 900 k ∷ []; come_to = record { number = 9; delivered = []; steps = 900 } ∷ [] } ∷
    -- F: of 17 messages of an interval the last finds no room
    record { events = ticked 200 ∷ flood t 17; come_to = quietly 17 ++ (refusal 6 ∷ []) } ∷
    -- G: too early
    record { events = ticked 100 ∷ hear 3 0 t ∷ []; come_to = quiet ∷ refusal 5 ∷ [] } ∷
    []

-- the key of interval 1 may be disclosed at 120 and not before; and all rows hold, whatever HMAC is, if the made-up key doesn't fit and the wrong tag isn't the right one
pub record Worked (m : MacFn) (k3 k t : List ℕ) : Type 0 where
  pub not_before : (tick : ℕ) → tick < 120 → interval_at hut tick < release hut 1
  pub then_may : release hut 1 ≤ interval_at hut 120
  pub hold : Holds m (walked m 3 k3) (rows m k3 k t)

abbrev pub WorkedCases : Type 0
WorkedCases = (m : MacFn) (k3 k t : List ℕ) → (walked m 900 k ≢ walked m 3 k3) → (t ≢ tag_bytes m (walked m 2 k3) (message_bytes (said 1 0))) → Worked m k3 k t
