-- A sender with a clock that is the time, any number of receivers with clocks of their own, and an adversary who has the air.
use Rattle.std.specs.Prelude.{◌≡◌, ℕ, ◌+◌, ◌-◌, ◌<◌, ◌≤◌, cond, List, [], ◌∷◌, ◌++◌, length, ◌==◌, nat_lt}
use Rattle.timing.specs.Time.{Params, interval_at, release}
use Rattle.model.specs.Term.{Term, Text, Gets, Bytes, val, Apart, chain_key, tag_term, down}
use Rattle.model.specs.Receiver.{Said, Message, Event, ticked, heard, disclosed, Receiver, message_bytes, is_in}

-- the sender's chain is chain 0
abbrev pub key_term : Params → (interval : ℕ) → Term
key_term p i = chain_key 0 p.last i

abbrev pub key_bytes : Params → Bytes → (interval : ℕ) → List ℕ
key_bytes p b i = val b (key_term p i)

abbrev pub tag_of : Params → Said → Term
tag_of p s = tag_term (key_term p s.interval) (Text (message_bytes s))

-- a message as the sender sends it
abbrev pub message_of : Params → Bytes → Said → Message
message_of p b s = record { says = s; tag = val b (tag_of p s) }

-- a message whose tag is the sender's
abbrev pub Genuine : Params → Bytes → Message → Type 0
Genuine p b x = x.tag ≡ val b (tag_of p x.says)

-- something said, with its tick
pub record Utterance : Type 0 where
  pub says : Said
  pub at : ℕ

-- what the sender may say at a tick
pub record MaySay (p : Params) (u : Utterance) : Type 0 where
  pub its_interval : u.says.interval ≡ interval_at p u.at
  pub lies_in_chain : u.says.interval ≤ p.last
  pub low_index : u.says.index ≤ 63
  pub short : length u.says.text ≤ 200

-- a receiver in its place. clock: the last tick that it accepted; held: its state; got: all that it ever delivered, in order; kept: all that it ever buffered
pub record Site (r : Receiver) : Type 0 where
  pub clock : ℕ
  pub held : r.Held
  pub got : List Said
  pub kept : List Message

pub record World (r : Receiver) : Type 0 where
  pub now : ℕ
  pub air : List Term
  pub said : List Utterance
  pub sites : ℕ → Site r

abbrev pub first_site : Params → Bytes → (r : Receiver) → Site r
first_site p b r = record { clock = 0; held = r.first (key_bytes p b 0); got = []; kept = [] }

-- everybody has key 0
abbrev pub start : Params → Bytes → (r : Receiver) → World r
start p b r = record { now = 0; air = key_term p 0 ∷ []; said = []; sites = λ n. first_site p b r }

abbrev pub clock_after : Event → ℕ → ℕ
clock_after (ticked t) c = cond (nat_lt t c) c t
clock_after (heard x j k) c = c
clock_after (disclosed j k) c = c

abbrev pub kept_after : Event → (buffer kept : List Message) → List Message
kept_after (ticked t) xs kept = kept
kept_after (heard x j k) xs kept = cond (is_in x xs) (x ∷ kept) kept
kept_after (disclosed j k) xs kept = kept

abbrev pub site_after : (r : Receiver) → Event → Site r → Site r
site_after r e a = record {
  clock = clock_after e a.clock;
  held = r.after e a.held;
  got = a.got ++ r.delivered e a.held;
  kept = kept_after e (r.buffer_of (r.after e a.held)) a.kept;
}

-- bytes that the adversary can bring as a key of interval j; the premise: what is worked out of them has the bytes of the key that is had, with which it is compared, only if it is that key
pub record BringsKey (p : Params) (b : Bytes) (air : List Term) (newest j : ℕ) (k : List ℕ) : Type 0 where
  pub term : Term
  pub can : Gets air term
  pub bytes : k ≡ val b term
  pub apart : newest < j → Apart b (down (j - newest) term) (key_term p newest)

-- bytes that the adversary can bring as a message; the premise: its tag has the bytes of the right one only if it is that tag
pub record BringsTag (p : Params) (b : Bytes) (air : List Term) (x : Message) : Type 0 where
  pub term : Term
  pub can : Gets air term
  pub bytes : x.tag ≡ val b term
  pub apart : Apart b term (tag_of p x.says)

-- a clock that is wrong by no more than the bound
pub record Within (p : Params) (now clock : ℕ) : Type 0 where
  pub not_slow : now ≤ clock + p.error
  pub not_fast : clock ≤ now + p.error

-- a tick may be any; a message is brought to a receiver whose clock is within the bound then
abbrev pub Brings : Params → Bytes → {r : Receiver} → World r → (site : ℕ) → Event → Type 0
Brings p b w n (ticked t) = Unit {0}
Brings p b {r} w n (heard x j k) = Within p w.now (w.sites n).clock × BringsTag p b w.air x × BringsKey p b w.air (r.newest_of (w.sites n).held) j k
Brings p b {r} w n (disclosed j k) = BringsKey p b w.air (r.newest_of (w.sites n).held) j k

abbrev pub put : {A : Type 0} → (ℕ → A) → ℕ → A → ℕ → A
put f n a k = cond (k == n) a (f k)

abbrev pub passed : {r : Receiver} → ℕ → World r → World r
passed t w = record { now = t; air = w.air; said = w.said; sites = w.sites }

abbrev pub uttered : Params → {r : Receiver} → Said → World r → World r
uttered p s w = record { now = w.now; air = tag_of p s ∷ w.air; said = (record { says = s; at = w.now }) ∷ w.said; sites = w.sites }

abbrev pub told_key : Params → {r : Receiver} → ℕ → World r → World r
told_key p i w = record { now = w.now; air = key_term p i ∷ w.air; said = w.said; sites = w.sites }

abbrev pub brought : {r : Receiver} → ℕ → Event → World r → World r
brought {r} n e w = record { now = w.now; air = w.air; said = w.said; sites = put w.sites n (site_after r e (w.sites n)) }

pub data Step (p : Params) (b : Bytes) (r : Receiver) : World r → World r → Type 0 where
  passes : (w : World r) (t : ℕ) → w.now ≤ t → Step p b r w (passed t w)
  says : (w : World r) (s : Said) → MaySay p (record { says = s; at = w.now }) → Step p b r w (uttered p s w)
  discloses : (w : World r) (i : ℕ) → i ≤ p.last → release p i ≤ interval_at p w.now → Step p b r w (told_key p i w)
  brings : (w : World r) (n : ℕ) (e : Event) → Brings p b w n e → Step p b r w (brought n e w)

pub data Later (p : Params) (b : Bytes) (r : Receiver) : World r → World r → Type 0 where
  here : {w : World r} → Later p b r w w
  onward : {w u v : World r} → Later p b r w u → Step p b r u v → Later p b r w v
