-- Both ends: what a sender sends, at a receiver.
use Rattle.std.specs.Prelude.{◌≡◌, ℕ, ◌<◌, ◌≤◌, true, ◌⊎◌, List, [], ◌∷◌, length, Some, None, Option, ◌≢◌}
use Rattle.sha256.specs.Hmac.{hmac}
use Rattle.timing.specs.Time.{Params, in_range, interval_at}
use Rattle.model.specs.Receiver as model
use Rattle.model.specs.Run.{Within}
use Rattle.wire.specs.Formats.{key_encoded, message_encoded, key_event, message_event, air_event}
use Rattle.sender.specs.State.{State, interval, newest, key_of, tick_answer, Ticked, back, nothing, told, say_answer, Spoken, refused, sent}
use Rattle.sender_laws.specs.Run.{Event, tick, say, step}
use Rattle.sender_laws.specs.Turned.{all_asks}

-- the bytes that are sent
abbrev pub bytes_of_tick : Ticked → Option (List ℕ)
bytes_of_tick back = None
bytes_of_tick nothing = None
bytes_of_tick (told k) = Some (key_encoded k)

abbrev pub bytes_of_spoken : Spoken → Option (List ℕ)
bytes_of_spoken (refused e) = None
bytes_of_spoken (sent x) = Some (message_encoded x)

abbrev pub bytes_sent : State → Event → Option (List ℕ)
bytes_sent s (tick t) = bytes_of_tick (tick_answer s t)
bytes_sent s (say text) = bytes_of_spoken (say_answer s text)

-- not refused as malformed, out of range, too late or too early
abbrev pub Welcome : (number : ℕ) → Type 0
Welcome n = (n ≢ 1) × (n ≢ 2) × (n ≢ 3) × (n ≢ 5)

-- a receiver reads the bytes, and doesn't refuse them so
pub record Heard (p : Params) (r : model.State) (b : List ℕ) : Type 0 where
  pub event : model.Event
  pub read_as : air_event b ≡ Some event
  pub welcome : Welcome (model.outcome_number (model.outcome p hmac event r))

-- What a sender sends in an interval is so heard by every receiver whose clock is within the bound and that hears it before the interval ends.
abbrev pub BothEnds : Type 0
BothEnds = (s : State) (e : Event) (r : model.State) (b : List ℕ) (now : ℕ) → in_range s.numbers ≡ true → length s.drawn ≡ 32 → bytes_sent s e ≡ Some b →
    (step s e).clock ≤ now → interval_at s.numbers now ≡ interval (step s e) → Within s.numbers now r.clock → Heard s.numbers r b

-- a receiver after it heard what an event sends
abbrev pub hears_tick : Params → Ticked → model.State → model.State
hears_tick p back r = r
hears_tick p nothing r = r
hears_tick p (told k) r = model.after p hmac (key_event k) r

abbrev pub hears_spoken : Params → Spoken → model.State → model.State
hears_spoken p (refused e) r = r
hears_spoken p (sent x) r = model.after p hmac (message_event x) r

abbrev pub hearing : State → Event → model.State → model.State
hearing s (tick t) r = hears_tick s.numbers (tick_answer s t) r
hearing s (say text) r = hears_spoken s.numbers (say_answer s text) r

-- after one of these events the receiver has the newest key that may be disclosed then
abbrev pub Recovers : State → List Event → model.State → Type 0
Recovers s [] r = ⊥
Recovers s (e ∷ es) r = ((hearing s e r).newest ≡ newest (step s e)) ⊎ Recovers (step s e) es (hearing s e r)

-- However many intervals a receiver missed: once it hears all that is sent in 62 disclosures in a row, it has the newest key after one of them.
abbrev pub BroughtBack : Type 0
BroughtBack = (s : State) (es : List Event) (r : model.State) → 0 < s.numbers.ticks → s.numbers.last ≤ 16384 → r.key ≡ key_of s r.newest → r.newest ≤ newest s →
    62 ≤ length (all_asks s es) → Recovers s es r
