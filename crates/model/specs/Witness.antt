-- Runs that show that the promise says something, that the safety test is exact, and what wrong receivers come to.
use Rattle.std.specs.Prelude.{◌≡◌, ℕ, zero, suc, ◌<◌, ◌≤◌, true, List, [], ◌∷◌, ◌++◌}
use mathlib.Core.List.{Memᴰ}
use Rattle.timing.specs.Time.{Params, params, in_range, may_be_out}
use Rattle.model.specs.Term.{Bytes, Gets}
use Rattle.model.specs.Receiver.{Said, Message, heard, State, ours, outcome_number}
use Rattle.model.specs.Run.{World, Later, start, Within, message_of, key_term, tag_of}
use Rattle.model.specs.Promise.{Meets, WasSaid}
use Rattle.model.specs.Wrong.{without_clock_error, twice_the_error, keeps_nothing, takes_any_key, key_first}

-- a run in which a message is said, buffered and delivered
pub record HeardThrough (p : Params) (b : Bytes) : Type 0 where
  pub world : World (ours p b.mac)
  pub run : Later p b (ours p b.mac) (start p b (ours p b.mac)) world
  pub what : Said
  pub was_said : WasSaid p world.said what
  pub was_buffered : Memᴰ (message_of p b what) (world.sites 0).kept
  pub is_delivered : Memᴰ what (world.sites 0).got

abbrev pub SomeRun : Type 0
SomeRun = (p : Params) (b : Bytes) → in_range p ≡ true → HeardThrough p b

-- a run in which a receiver's clock shows c, within the bound, nothing was ever said, and the key of interval i is out: any message of that interval can be made up
pub record OutAt (p : Params) (b : Bytes) (c i : ℕ) : Type 0 where
  pub world : World (ours p b.mac)
  pub run : Later p b (ours p b.mac) (start p b (ours p b.mac)) world
  pub clock_is : (world.sites 0).clock ≡ c
  pub within : Within p world.now c
  pub nothing_said : world.said ≡ []
  pub key_out : Gets world.air (key_term p i)
  pub forged : (s : Said) → s.interval ≡ i → Gets world.air (tag_of p s)

-- wherever the safety test refuses, there is such a run
abbrev pub Exact : Type 0
Exact = (p : Params) (b : Bytes) → in_range p ≡ true → (c i : ℕ) → 0 < i → i ≤ p.last → may_be_out p c i ≡ true → OutAt p b c i

-- intervals of a minute, keys told after one interval between, clocks wrong by at most five seconds
abbrev pub minutes : Params
minutes = params 60 1 5 10

-- whatever HMAC is, a receiver that forgets its clock's error delivers what nobody said
pub record Fooled (b : Bytes) : Type 0 where
  pub world : World (without_clock_error minutes b.mac)
  pub run : Later minutes b (without_clock_error minutes b.mac) (start minutes b (without_clock_error minutes b.mac)) world
  pub what : Said
  pub nothing_said : world.said ≡ []
  pub is_delivered : Memᴰ what (world.sites 0).got

abbrev pub ToyFooled : Type 0
ToyFooled = (b : Bytes) → Fooled b

abbrev pub NeedsError : Type 0
NeedsError = Meets without_clock_error → ⊥

abbrev pub ErrorOnce : Type 0
ErrorOnce = Meets twice_the_error → ⊥

abbrev pub MustKeep : Type 0
MustKeep = Meets keeps_nothing → ⊥

abbrev pub MustCompare : Type 0
MustCompare = Meets takes_any_key → ⊥

-- a message of an interval, with an index, and no tag
abbrev pub blank : (interval index : ℕ) → Message
blank i n = record { says = record { interval = i; index = n; text = [] }; tag = [] }

unfoldable pub blanks : (interval many : ℕ) → List Message
blanks i zero = []
blanks i (suc n) = blank i n ∷ blanks i n

-- a state whose buffer has the message, which the key behind it would make it forget
abbrev pub having : State
having = record { clock = 100; newest = 0; key = []; buffer = blank 1 0 ∷ [] }

-- a state whose buffer is full, which the key behind the message would free
abbrev pub full : State
full = record { clock = 250; newest = 0; key = []; buffer = blanks 1 16 ++ (blanks 2 16 ++ (blanks 3 16 ++ blanks 4 16)) }

-- one that looks at the key first answers otherwise: 4 for 0 at the first state, 0 for 6 at the second
abbrev pub MessageFirst : Type 0
MessageFirst =
    (outcome_number ((ours minutes (λ k t. [])).outcome (heard (blank 1 0) 1 []) having) ≡ 0) ×
    (outcome_number ((key_first minutes (λ k t. [])).outcome (heard (blank 1 0) 1 []) having) ≡ 4) ×
    (outcome_number ((ours minutes (λ k t. [])).outcome (heard (blank 5 0) 4 []) full) ≡ 6) ×
    (outcome_number ((key_first minutes (λ k t. [])).outcome (heard (blank 5 0) 4 []) full) ≡ 0)
