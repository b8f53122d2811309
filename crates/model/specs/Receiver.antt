-- The receiver's rules, over bytes and numbers.
use Rattle.std.specs.Prelude.{ℕ, zero, suc, pred, ◌+◌, ◌-◌, ◌/◌, ◌%◌, Bool, true, false, cond, not, ◌&&◌, ◌||◌, List, [], ◌∷◌, ◌++◌, length, take, ◌==◌, nat_le, nat_lt}
use Rattle.std.specs.Str.{bytes_eq}
use Rattle.timing.specs.Time.{Params, may_be_out, too_early}
use Rattle.timing.specs.Numbers.{refusal_number}
use Rattle.timing.specs.declared.refusal.Refusal.{Refusal}
use Rattle.timing.specs.declared.refusal.Refusal.TheVariants.{OutOfRange, TooLate, KeyHad, TooEarly, NoRoom, KeyNotAfter, KeyTooFar, KeyMisfit, ClockBack}
use Rattle.model.specs.Term.{MacFn}

-- what a message says
pub record Said : Type 0 where
  pub interval : ℕ
  pub index : ℕ
  pub text : List ℕ

pub record Message : Type 0 where
  pub says : Said
  pub tag : List ℕ

-- what reaches a receiver: a tick of its own clock; a message, behind it a disclosed key with its interval (0: none); a key by itself
pub data Event : Type 0 where
  ticked : (tick : ℕ) → Event
  heard : Message → (interval : ℕ) → (key : List ℕ) → Event
  disclosed : (interval : ℕ) → (key : List ℕ) → Event

-- what an event comes to
pub data Outcome : Type 0 where
  told buffered already taken : Outcome
  refused : Refusal → Outcome

abbrev pub outcome_number : Outcome → ℕ
outcome_number told = 0
outcome_number buffered = 0
outcome_number already = 0
outcome_number taken = 0
outcome_number (refused e) = refusal_number e

-- clock: the last tick told; newest: the newest interval whose key is had, and that key; buffer: messages as they came
pub record State : Type 0 where
  pub clock : ℕ
  pub newest : ℕ
  pub key : List ℕ
  pub buffer : List Message

abbrev pub first_state : (commitment : List ℕ) → State
first_state k = record { clock = 0; newest = 0; key = k; buffer = [] }

-- the bytes under a tag: kind, interval, index, length, text
abbrev pub message_bytes : Said → List ℕ
message_bytes s = 1 ∷ (s.interval / 256) ∷ (s.interval % 256) ∷ s.index ∷ length s.text ∷ s.text

-- the key so many intervals before
unfoldable pub walked : MacFn → ℕ → List ℕ → List ℕ
walked m zero k = k
walked m (suc n) k = m (walked m n k) (1 ∷ [])

abbrev pub mac_key_bytes : MacFn → (key : List ℕ) → List ℕ
mac_key_bytes m k = m k (2 ∷ [])

abbrev pub tag_bytes : MacFn → (key : List ℕ) → (text : List ℕ) → List ℕ
tag_bytes m k t = take 16 (m (mac_key_bytes m k) t)

abbrev pub is_right : MacFn → (key : List ℕ) → Message → Bool
is_right m k x = bytes_eq x.tag (tag_bytes m k (message_bytes x.says))

abbrev pub same_message : Message → Message → Bool
same_message x y = x.says.interval == y.says.interval && (x.says.index == y.says.index && (bytes_eq x.says.text y.says.text && bytes_eq x.tag y.tag))

unfoldable pub is_in : Message → List Message → Bool
is_in x [] = false
is_in x (y ∷ ys) = same_message x y || is_in x ys

unfoldable pub of_interval : ℕ → List Message → ℕ
of_interval i [] = 0
of_interval i (y ∷ ys) = cond (y.says.interval == i) (suc (of_interval i ys)) (of_interval i ys)

-- room: 64 messages, 16 of an interval
abbrev pub has_room : List Message → (interval : ℕ) → Bool
has_room xs i = nat_lt (length xs) 64 && nat_lt (of_interval i xs) 16

abbrev pub in_chain : Params → (interval : ℕ) → Bool
in_chain p i = nat_lt 0 i && nat_le i p.last

-- what a message comes to, lowest number first
abbrev pub judge : Params → State → Message → Outcome
judge p s x =
    cond (not (in_chain p x.says.interval && nat_le x.says.index 63)) (refused OutOfRange)
    (cond (is_in x s.buffer) already
    (cond (may_be_out p s.clock x.says.interval) (refused TooLate)
    (cond (nat_le x.says.interval s.newest) (refused KeyHad)
    (cond (too_early p s.clock x.says.interval) (refused TooEarly)
    (cond (not (has_room s.buffer x.says.interval)) (refused NoRoom)
    buffered)))))

abbrev pub is_buffered : Outcome → Bool
is_buffered told = false
is_buffered buffered = true
is_buffered already = false
is_buffered taken = false
is_buffered (refused e) = false

-- the receiver after a message
abbrev pub hears : Params → Message → State → State
hears p x s = cond (is_buffered (judge p s x)) (record { clock = s.clock; newest = s.newest; key = s.key; buffer = s.buffer ++ (x ∷ []) }) s

-- what a key comes to by the chain alone, lowest number first: it is said to be of interval j; had is the key of the newest interval
abbrev pub judge_walk : MacFn → (interval : ℕ) → (key : List ℕ) → (newest : ℕ) → (had : List ℕ) → Outcome
judge_walk m j k n had =
    cond (nat_le j n) (refused KeyNotAfter)
    (cond (nat_lt (n + 1024) j) (refused KeyTooFar)
    (cond (not (bytes_eq (walked m (j - n) k) had)) (refused KeyMisfit)
    taken))

-- how many keys are worked out for it
abbrev pub walk_steps : (interval newest : ℕ) → ℕ
walk_steps j n = cond (nat_le j (n + 1024)) (j - n) 0

-- the same for a receiver: the interval has to be one of the chain's
abbrev pub judge_key : Params → MacFn → (interval : ℕ) → (key : List ℕ) → State → Outcome
judge_key p m j k s = cond (not (in_chain p j)) (refused OutOfRange) (judge_walk m j k s.newest s.key)

abbrev pub key_steps : Params → (interval : ℕ) → State → ℕ
key_steps p j s = cond (in_chain p j) (walk_steps j s.newest) 0

abbrev pub is_taken : Outcome → Bool
is_taken told = false
is_taken buffered = false
is_taken already = false
is_taken taken = true
is_taken (refused e) = false

-- of the buffered messages those of one interval whose tag is right under its key, in the order in which they came
unfoldable pub right_of : MacFn → (key : List ℕ) → (interval : ℕ) → List Message → List Said
right_of m k i [] = []
right_of m k i (x ∷ xs) = cond (x.says.interval == i && is_right m k x) (x.says ∷ right_of m k i xs) (right_of m k i xs)

-- the same of the n intervals up to interval j, whose key this is, intervals rising
unfoldable pub right_up_to : MacFn → (key : List ℕ) → (n j : ℕ) → List Message → List Said
right_up_to m k zero j xs = []
right_up_to m k (suc n) j xs = right_up_to m (m k (1 ∷ [])) n (pred j) xs ++ right_of m k j xs

-- the messages of intervals after i
unfoldable pub later_than : ℕ → List Message → List Message
later_than i [] = []
later_than i (x ∷ xs) = cond (nat_le x.says.interval i) (later_than i xs) (x ∷ later_than i xs)

-- the receiver after a key, and what it delivers
abbrev pub learns : Params → MacFn → (interval : ℕ) → (key : List ℕ) → State → State
learns p m j k s = cond (is_taken (judge_key p m j k s)) (record { clock = s.clock; newest = j; key = k; buffer = later_than j s.buffer }) s

abbrev pub delivers : Params → MacFn → (interval : ℕ) → (key : List ℕ) → State → List Said
delivers p m j k s = cond (is_taken (judge_key p m j k s)) (right_up_to m k (j - s.newest) j s.buffer) []

abbrev pub judge_tick : (tick : ℕ) → State → Outcome
judge_tick t s = cond (nat_lt t s.clock) (refused ClockBack) told

abbrev pub ticks : (tick : ℕ) → State → State
ticks t s = cond (nat_lt t s.clock) s (record { clock = t; newest = s.newest; key = s.key; buffer = s.buffer })

-- what a receiver must be: its states, what it does at each event, what it answers and delivers, how many keys it works out,
-- the newest interval whose key it has, and what it has buffered
pub record Receiver : Type 1 where
  pub Held : Type 0
  pub first : (commitment : List ℕ) → Held
  pub after : Event → Held → Held
  pub outcome : Event → Held → Outcome
  pub delivered : Event → Held → List Said
  pub steps : Event → Held → ℕ
  pub newest_of : Held → ℕ
  pub buffer_of : Held → List Message

-- a message is judged before the key behind it
abbrev pub after : Params → MacFn → Event → State → State
after p m (ticked t) s = ticks t s
after p m (heard x j k) s = learns p m j k (hears p x s)
after p m (disclosed j k) s = learns p m j k s

abbrev pub outcome : Params → MacFn → Event → State → Outcome
outcome p m (ticked t) s = judge_tick t s
outcome p m (heard x j k) s = judge p s x
outcome p m (disclosed j k) s = judge_key p m j k s

abbrev pub delivered : Params → MacFn → Event → State → List Said
delivered p m (ticked t) s = []
delivered p m (heard x j k) s = delivers p m j k (hears p x s)
delivered p m (disclosed j k) s = delivers p m j k s

abbrev pub steps : Params → Event → State → ℕ
steps p (ticked t) s = 0
steps p (heard x j k) s = key_steps p j s
steps p (disclosed j k) s = key_steps p j s

-- ours
abbrev pub ours : Params → MacFn → Receiver
ours p m = record {
  Held = State;
  first = first_state;
  after = after p m;
  outcome = outcome p m;
  delivered = delivered p m;
  steps = steps p;
  newest_of = λ s. s.newest;
  buffer_of = λ s. s.buffer;
}
