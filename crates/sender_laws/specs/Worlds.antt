-- What a sender's calls are in the model: steps of its sender, from world to world.
use Rattle.std.specs.Prelude.{◌≡◌, ℕ, ◌≤◌, true, cond, ◌⊎◌, List, [], length, ◌==◌}
use mathlib.Core.List.{Memᴰ}
use Rattle.sha256.specs.Hmac.{hmac}
use Rattle.timing.specs.Time.{Params, in_range, interval_at, release}
use Rattle.model.specs.Term.{Term}
use Rattle.model.specs.Receiver as model
use Rattle.model.specs.Run.{World, Utterance, MaySay, Later, start, key_term, key_bytes, tag_of, message_of, passed, uttered, told_key, brought}
use Rattle.keychain.specs.Chain.{drawing, zeros}
use Rattle.sender.specs.State.{State, first_state, saying_of, tick_answer, Ticked, back, nothing, told, say_answer, Spoken, refused, sent}
use Rattle.sender_laws.specs.Run.{Event, tick, say, step, Before}

-- the model's worlds, with our receivers
abbrev pub Worlds : Params → Type 0
Worlds p = World (model.ours p hmac)

-- a term of the air: key 0, a key from its release on, or the tag of something that was said
pub data OnAir (p : Params) (now : ℕ) (us : List Utterance) : Term → Type 0 where
  key_out : (i : ℕ) → i ≤ p.last → (i ≡ 0) ⊎ (release p i ≤ interval_at p now) → OnAir p now us (key_term p i)
  tag_said : (u : Utterance) → Memᴰ u us → OnAir p now us (tag_of p u.says)

-- the worlds that a sender's state stands for: its clock is the time; all that was said, was so by the rules and before what it says next; and the air has nothing but that and keys that may be out
pub record Stands (p : Params) (s : State) (w : Worlds p) : Type 0 where
  pub lies_in_range : in_range p ≡ true
  pub numbers_are : s.numbers ≡ p
  pub long : length s.drawn ≡ 32
  pub time : w.now ≡ s.clock
  pub may_say : (u : Utterance) → Memᴰ u w.said → MaySay p u
  pub before : (u : Utterance) → Memᴰ u w.said → Before u.says (saying_of s [])
  pub on_air : (x : Term) → Memᴰ x w.air → OnAir p w.now w.said x

-- the world after a tick: the time, and the key on the air
abbrev pub after_tick : (p : Params) → Ticked → (t : ℕ) → Worlds p → Worlds p
after_tick p back t w = w
after_tick p nothing t w = passed t w
after_tick p (told k) t w = told_key p k.interval (passed t w)

-- the world after a message: what was said, its tag on the air, and the key behind it, if there is one
abbrev pub after_spoken : (p : Params) → Spoken → Worlds p → Worlds p
after_spoken p (refused e) w = w
after_spoken p (sent x) w = cond (x.behind.interval == 0) (uttered p x.message.says w) (told_key p x.behind.interval (uttered p x.message.says w))

abbrev pub after_event : (p : Params) → State → Event → Worlds p → Worlds p
after_event p s (tick t) w = after_tick p (tick_answer s t) t w
after_event p s (say text) w = after_spoken p (say_answer s text) w

-- from a world to another by the model's steps, and the state after stands for it
pub record Moves (p : Params) (d : List ℕ) (u : State) (w v : Worlds p) : Type 0 where
  pub later : Later p (drawing d) (model.ours p hmac) w v
  pub stands : Stands p u v

-- From each world that the state s stands for, an event moves to one that the state u stands for.
pub record MovesWorlds (s : State) (e : Event) (u : State) : Type 0 where
  pub moves : (p : Params) (w : Worlds p) → Stands p s w → Moves p s.drawn u w (after_event p s e w)

-- Every call takes each world that the state stands for to one that the state after it stands for, by the model's steps.
abbrev pub Lawful : Type 0
Lawful = (p : Params) (s : State) (w : Worlds p) (e : Event) → Stands p s w → Moves p s.drawn (step s e) w (after_event p s e w)

-- The first state stands for the model's first world.
abbrev pub StandsFirst : Type 0
StandsFirst = (p : Params) (d : List ℕ) → in_range p ≡ true → length d ≡ 32 → Stands p (first_state p d) (start p (drawing d) (model.ours p hmac))

-- What reaches receivers changes nothing of that.
abbrev pub Undisturbed : Type 0
Undisturbed = (p : Params) (s : State) (w : Worlds p) (n : ℕ) (e : model.Event) → Stands p s w → Stands p s (brought n e w)

-- the keys and tags that are sent are the chain's, which are the model's
abbrev pub TickGenuine : (p : Params) → (d : List ℕ) → Ticked → Type 0
TickGenuine p d back = Unit {0}
TickGenuine p d nothing = Unit {0}
TickGenuine p d (told k) = k.key ≡ key_bytes p (drawing d) k.interval

abbrev pub SpokenGenuine : (p : Params) → (d : List ℕ) → Spoken → Type 0
SpokenGenuine p d (refused e) = Unit {0}
SpokenGenuine p d (sent x) =
    (x.message ≡ message_of p (drawing d) x.message.says) ×
    (x.behind.key ≡ cond (x.behind.interval == 0) zeros (key_bytes p (drawing d) x.behind.interval))

pub record Genuine : Type 0 where
  pub keys : (s : State) (t : ℕ) → TickGenuine s.numbers s.drawn (tick_answer s t)
  pub messages : (s : State) (text : List ℕ) → SpokenGenuine s.numbers s.drawn (say_answer s text)
