-- What is promised of a receiver in every run.
use Rattle.std.specs.Prelude.{◌≡◌, ℕ, ◌+◌, ◌*◌, ◌<◌, ◌≤◌, true, ◌⊎◌, List, [], ◌∷◌, ◌≢◌}
use mathlib.Core.List.{Memᴰ}
use Rattle.timing.specs.Time.{Params, in_range, interval_at, opening, release}
use Rattle.model.specs.Term.{Bytes, MacFn}
use Rattle.model.specs.Receiver.{Said, Message, Event, ticked, heard, disclosed, Receiver, buffered, already, taken, has_room}
use Rattle.model.specs.Run.{World, Utterance, Later, start, message_of, key_bytes, Genuine, Brings}

abbrev pub Once : {A : Type 0} → List A → Type 0
Once [] = Unit {0}
Once (x ∷ xs) = (Memᴰ x xs → ⊥) × Once xs

abbrev pub Rising : List Said → Type 0
Rising [] = Unit {0}
Rising (s ∷ ss) = ((t : Said) → Memᴰ t ss → s.interval ≤ t.interval) × Rising ss

-- it was said, just so, at a tick of its interval
pub record WasSaid (p : Params) (us : List Utterance) (s : Said) : Type 0 where
  pub at_tick : ℕ
  pub is_said : Memᴰ (record { says = s; at = at_tick }) us
  pub its_interval : s.interval ≡ interval_at p at_tick

-- the event discloses this key, by itself or behind a message
abbrev pub Discloses : Event → (interval : ℕ) → (key : List ℕ) → Type 0
Discloses (ticked t) j k = ⊥
Discloses (heard x i h) j k = (i ≡ j) × (h ≡ k)
Discloses (disclosed i h) j k = (i ≡ j) × (h ≡ k)

abbrev pub Carries : Event → Message → Type 0
Carries (ticked t) x = ⊥
Carries (heard y i h) x = y ≡ x
Carries (disclosed i h) x = ⊥

-- of one receiver, in a world that there can be
pub record KeptPromise (p : Params) (b : Bytes) (r : Receiver) (w : World r) (n : ℕ) : Type 0 where
  -- what it delivered was said; each once, intervals rising
  pub was_said : (s : Said) → Memᴰ s (w.sites n).got → WasSaid p w.said s
  pub once : Once (w.sites n).got
  pub rising : Rising (w.sites n).got
  -- what was said and is brought so early that no clock within the bound could show the release of its key is buffered, or is already,
  -- if there is room and the key isn't had
  pub buffers : (s : Said) (j : ℕ) (k : List ℕ) → WasSaid p w.said s → Brings p b w n (heard (message_of p b s) j k) →
      w.now + 2 * p.error < opening p (release p s.interval) → r.newest_of (w.sites n).held < s.interval → has_room (r.buffer_of (w.sites n).held) s.interval ≡ true →
      Memᴰ (message_of p b s) (r.buffer_of (r.after (heard (message_of p b s) j k) (w.sites n).held)) ×
      ((r.outcome (heard (message_of p b s) j k) (w.sites n).held ≡ buffered) ⊎ (r.outcome (heard (message_of p b s) j k) (w.sites n).held ≡ already))
  -- what was ever buffered with a genuine tag is delivered once the key of its interval or a later one is had
  pub delivers : (x : Message) → Memᴰ x (w.sites n).kept → Genuine p b x → x.says.interval ≤ r.newest_of (w.sites n).held → Memᴰ x.says (w.sites n).got
  -- a genuine key at most 1,024 ahead is taken, by itself or behind a message
  pub takes : (e : Event) (j : ℕ) → Discloses e j (key_bytes p b j) → r.newest_of (w.sites n).held < j → j ≤ p.last → j ≤ r.newest_of (w.sites n).held + 1024 →
      r.newest_of (r.after e (w.sites n).held) ≡ j
  -- the newest moves only to a genuine key that is brought
  pub moves : (e : Event) → Brings p b w n e →
      (r.newest_of (r.after e (w.sites n).held) ≡ r.newest_of (w.sites n).held) ⊎ Discloses e (r.newest_of (r.after e (w.sites n).held)) (key_bytes p b (r.newest_of (r.after e (w.sites n).held)))
  -- a key that isn't of the chain is not taken, and changes nothing
  pub leaves : (j : ℕ) (k : List ℕ) → Brings p b w n (disclosed j k) → (k ≢ key_bytes p b j) →
      (r.after (disclosed j k) (w.sites n).held ≡ (w.sites n).held) × (r.delivered (disclosed j k) (w.sites n).held ≡ []) × (r.outcome (disclosed j k) (w.sites n).held ≢ taken)
  -- the buffer has only what was brought, each message once, and none of an interval whose key is had
  pub buffers_brought : (e : Event) (x : Message) → Memᴰ x (r.buffer_of (r.after e (w.sites n).held)) → Memᴰ x (r.buffer_of (w.sites n).held) ⊎ Carries e x
  pub buffers_once : Once (r.buffer_of (w.sites n).held)
  pub buffers_new : (x : Message) → Memᴰ x (r.buffer_of (w.sites n).held) → r.newest_of (w.sites n).held < x.says.interval
  -- no input costs more than 1,024 steps of the key chain
  pub few_steps : (e : Event) → r.steps e (w.sites n).held ≤ 1024

-- the promise of the whole: for all settings in range, whatever HMAC is, in every run, for each receiver
abbrev pub Meets : (Params → MacFn → Receiver) → Type 0
Meets r = (p : Params) (b : Bytes) → in_range p ≡ true → (w : World (r p b.mac)) → Later p b (r p b.mac) (start p b (r p b.mac)) w → (n : ℕ) → KeptPromise p b (r p b.mac) w n
