-- A sender: what it is after each call, and what it sends.
use Rattle.std.specs.Prelude.{◌≡◌, ℕ, ◌+◌, ◌-◌, min, Bool, cond, not, ◌&&◌, ◌||◌, List, length, Some, None, Ok, Err, Option, Result, ◌==◌, nat_le, nat_lt}
use Rattle.timing.specs.Time.{Params, interval_at}
use Rattle.timing.specs.declared.refusal.Refusal.{Refusal}
use Rattle.timing.specs.declared.refusal.Refusal.TheVariants.{Malformed, OutOfRange, ClockBack}
use Rattle.model.specs.Receiver.{Said, message_bytes}
use Rattle.keychain.specs.Chain.{tagged, zeros}
use Rattle.wire.specs.Bytes.{over}
use Rattle.wire.specs.Formats.{Key, Packet, packet, message_encoded, key_encoded}
use Rattle.wire.specs.Setup.{Setup}
use Rattle.segments.specs.Parts.{key_at, part_of}
use Rattle.segments.specs.Work.{work}
use Rattle.turns.specs.declared.Turn.{Turn}
use Rattle.turns.specs.Turns.{disclosed, afterwards, first_turn}

-- drawn: the key of the last interval; index: that of the next message;
-- told_in: the last interval in which a key was disclosed by itself, 0 for none
pub record State : Type 0 where
  pub numbers : Params
  pub drawn : List ℕ
  pub clock : ℕ
  pub index : ℕ
  pub told_in : ℕ
  pub turn : Turn

abbrev pub first_state : Params → (drawn : List ℕ) → State
first_state p d = record { numbers = p; drawn = d; clock = 0; index = 0; told_in = 0; turn = first_turn }

-- the settings that are given out, with key 0
abbrev pub setup_for : Params → (drawn : List ℕ) → (start : ℕ) → Setup
setup_for p d start = record { start = start; numbers = p; commitment = key_at p.last d 0 }

-- the interval of the newest key that may be disclosed in interval i, 0 for none
abbrev pub newest_in : Params → (i : ℕ) → ℕ
newest_in p i = min (i - (p.delay + 1)) p.last

abbrev pub interval : State → ℕ
interval s = interval_at s.numbers s.clock

abbrev pub newest : State → ℕ
newest s = newest_in s.numbers (interval s)

abbrev pub key_of : State → ℕ → List ℕ
key_of s i = key_at s.numbers.last s.drawn i

-- the clock is t, which is not before; in another interval indices begin at 0
abbrev pub advanced : State → (t : ℕ) → State
advanced s t = record {
  numbers = s.numbers;
  drawn = s.drawn;
  clock = t;
  index = cond (interval_at s.numbers t == interval s) s.index 0;
  told_in = s.told_in;
  turn = s.turn;
}

-- the intervals whose keys are worked out as the clock goes to t
abbrev pub work_at : State → (t : ℕ) → List ℕ
work_at s t = work s.numbers.last s.numbers.delay (part_of s.numbers.last (interval s)) (part_of s.numbers.last (interval_at s.numbers t))

-- a key is due by itself: none was in this interval, and it is not past the one in which the last key may be disclosed
abbrev pub due : State → Bool
due s = not (interval s == s.told_in) && nat_le (interval s) (s.numbers.last + s.numbers.delay + 1)

-- the interval whose key is disclosed by itself, 0 for none: up to the last interval in turn, then the newest
abbrev pub alone : State → ℕ
alone s = cond (nat_le (interval s) s.numbers.last) (disclosed s.turn (newest s)) (newest s)

abbrev pub told_alone : State → State
told_alone s = record {
  numbers = s.numbers;
  drawn = s.drawn;
  clock = s.clock;
  index = s.index;
  told_in = interval s;
  turn = cond (nat_le (interval s) s.numbers.last) (afterwards s.turn (newest s)) s.turn;
}

-- what a tick comes to
pub data Ticked : Type 0 where
  back nothing : Ticked
  told : Key → Ticked

abbrev pub shown_key : State → ℕ → Ticked
shown_key s i = cond (i == 0) nothing (told (record { interval = i; key = key_of s i }))

unfoldable pub ticked : State → (t : ℕ) → State
ticked s t = cond (nat_lt t s.clock) s (cond (due (advanced s t)) (told_alone (advanced s t)) (advanced s t))

unfoldable pub tick_answer : State → (t : ℕ) → Ticked
tick_answer s t = cond (nat_lt t s.clock) back (cond (due (advanced s t)) (shown_key s (alone (advanced s t))) nothing)

-- the bytes of it that are sent, or the refusal
abbrev pub tick_bytes : Ticked → Result (Option (List ℕ)) Refusal
tick_bytes back = Err ClockBack
tick_bytes nothing = Ok None
tick_bytes (told k) = Ok (Some (key_encoded k))

-- what saying something comes to
pub data Spoken : Type 0 where
  refused : Refusal → Spoken
  sent : Packet → Spoken

abbrev pub saying_of : State → (text : List ℕ) → Said
saying_of s text = record { interval = interval s; index = s.index; text = text }

-- the key behind a message: interval 0 and zeros where none may be disclosed
abbrev pub key_shown : State → ℕ → List ℕ
key_shown s i = cond (i == 0) zeros (key_of s i)

abbrev pub message_of : State → (text : List ℕ) → Packet
message_of s text =
    packet (saying_of s text) (tagged (key_of s (interval s)) (message_bytes (saying_of s text)))
    (record { interval = disclosed s.turn (newest s); key = key_shown s (disclosed s.turn (newest s)) })

abbrev pub after_said : State → State
after_said s = record {
  numbers = s.numbers;
  drawn = s.drawn;
  clock = s.clock;
  index = s.index + 1;
  told_in = s.told_in;
  turn = afterwards s.turn (newest s);
}

-- no message may be said any more in this interval
abbrev pub may_not : State → Bool
may_not s = nat_lt s.numbers.last (interval s) || nat_lt 63 s.index

unfoldable pub say_answer : State → (text : List ℕ) → Spoken
say_answer s text = cond (nat_lt 200 (length text)) (refused Malformed) (cond (may_not s) (refused OutOfRange) (sent (message_of s text)))

unfoldable pub said : State → (text : List ℕ) → State
said s text = cond (nat_lt 200 (length text)) s (cond (may_not s) s (after_said s))

-- how many bytes are sent, or the refusal; and the memory with them at its front
abbrev pub sent_length : Spoken → Result ℕ Refusal
sent_length (refused e) = Err e
sent_length (sent x) = Ok (length (message_encoded x))

abbrev pub sent_over : Spoken → (memory : List ℕ) → List ℕ
sent_over (refused e) m = m
sent_over (sent x) m = over (message_encoded x) m

-- What a tick does: the state before it, the time, the state after it, and the answer.
pub record Ticks (s : State) (t : ℕ) (u : State) (answer : Result (Option (List ℕ)) Refusal) : Type 0 where
  pub after : u ≡ ticked s t
  pub told : answer ≡ tick_bytes (tick_answer s t)

-- What saying a text does: the state before it, the text, the state after it, how many bytes there are, and the memory before and after.
pub record Says (s : State) (text : List ℕ) (u : State) (count : Result ℕ Refusal) (m n : List ℕ) : Type 0 where
  pub after : u ≡ said s text
  pub answer : count ≡ sent_length (say_answer s text)
  pub memory : n ≡ sent_over (say_answer s text) m
