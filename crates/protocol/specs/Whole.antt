-- Both ends: one sender, any number of receivers, and an adversary between them that brings any bytes it can make.
use Rattle.std.specs.Prelude.{◌≡◌, ℕ, true, List, length}
use Rattle.timing.specs.Time.{Params, in_range}
use Rattle.sha256.specs.Hmac.{hmac}
use Rattle.model.specs.Receiver.{ours}
use Rattle.model.specs.Run.{start}
use Rattle.model.specs.Promise.{KeptPromise}
use Rattle.keychain.specs.Chain.{drawing}
use Rattle.sender.specs.State.{State, first_state}
use Rattle.sender_laws.specs.Run.{Event, step}
use Rattle.sender_laws.specs.Worlds.{Stands, after_event}
use Rattle.receiver.specs.Calls.{Input, event_of}
use Rattle.receiver.specs.Worlds.{Worlds, world_after, CanBring}

-- every sequence of public calls: the sender is given a tick or a text, a receiver is handed bytes of its own clock or from the air
pub data Runs (p : Params) (d : List ℕ) : State → Worlds p → Type 0 where
  first : Runs p d (first_state p d) (start p (drawing d) (ours p hmac))
  sender : {s : State} {w : Worlds p} → Runs p d s w → (e : Event) → Runs p d (step s e) (after_event p s e w)
  receiver : {s : State} {w : Worlds p} → Runs p d s w → (n : ℕ) (i : Input) → CanBring p (drawing d) w n (event_of i) → Runs p d s (world_after p n i w)

-- the sender's state stands for the world, and the promise is kept to each receiver
pub record Whole (p : Params) (d : List ℕ) (s : State) (w : Worlds p) : Type 0 where
  pub stands : Stands p s w
  pub keeps : (n : ℕ) → KeptPromise p (drawing d) (ours p hmac) w n

-- the promise of the whole, over the definitions that the contracts of the public calls cite
abbrev pub PromiseOfWhole : Type 0
PromiseOfWhole = (p : Params) (d : List ℕ) (s : State) (w : Worlds p) → in_range p ≡ true → length d ≡ 32 → Runs p d s w → Whole p d s w
