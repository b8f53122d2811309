-- For which worlds a receiver's state stands, and the promise over every sequence of calls.
use Rattle.std.specs.Prelude.{◌≡◌, ℕ, true, List, ◌++◌, Some, None, Option}
use Rattle.timing.specs.Time.{Params, in_range}
use Rattle.sha256.specs.Hmac.{hmac}
use Rattle.model.specs.Term.{Bytes}
use Rattle.model.specs.Receiver.{Said, Event, ours}
use Rattle.model.specs.Run.{World, Step, Later, start, Brings, brought}
use Rattle.model.specs.Promise.{KeptPromise}
use Rattle.keychain.specs.Chain.{drawing}
use Rattle.receiver.specs.declared.state.Receiver.{Receiver}
use Rattle.receiver.specs.State.{params_of, state_of}
use Rattle.receiver.specs.Calls.{Input, event_of, state_after, delivered_of}

-- worlds of receivers that go by the rules with HMAC-SHA-256
abbrev pub Worlds : Params → Type 0
Worlds p = World (ours p hmac)

-- the receiver's state is that of site n
pub record Stands (p : Params) (n : ℕ) (r : Receiver) (w : Worlds p) : Type 0 where
  pub settings_are : params_of r ≡ p
  pub clock_is : (w.sites n).clock ≡ r.clock
  pub held_is : (w.sites n).held ≡ state_of r

-- the world after site n was handed bytes
abbrev pub brought_by : (p : Params) → ℕ → Option Event → Worlds p → Worlds p
brought_by p n (Some e) w = brought n e w
brought_by p n None w = w

abbrev pub world_after : (p : Params) → ℕ → Input → Worlds p → Worlds p
world_after p n i w = brought_by p n (event_of i) w

-- the adversary can bring these bytes; bytes that have no form anybody can bring
abbrev pub CanBring : (p : Params) → Bytes → Worlds p → ℕ → Option Event → Type 0
CanBring p b w n (Some e) = Brings p b w n e
CanBring p b w n None = Unit {0}

-- what is promised of a call, for every world for which the receiver stood, whatever key was drawn
pub record CallStands (p : Params) (n : ℕ) (i : Input) (now : Receiver) (out : List Said) (w : Worlds p) : Type 0 where
  -- what comes back stands for that world after the call
  pub stands : Stands p n now (world_after p n i w)
  -- and what is delivered is what the world then believes anew
  pub delivers : ((world_after p n i w).sites n).got ≡ (w.sites n).got ++ out
  -- if the world was reached by a run and the bytes could be brought, the promise is kept after the call
  pub keeps : (d : List ℕ) → in_range p ≡ true → Later p (drawing d) (ours p hmac) (start p (drawing d) (ours p hmac)) w → CanBring p (drawing d) w n (event_of i) →
      (m : ℕ) → KeptPromise p (drawing d) (ours p hmac) (world_after p n i w) m

-- every sequence of calls, with whatever the sender does between them
pub data Calls (p : Params) (d : List ℕ) : Worlds p → Worlds p → Type 0 where
  none : {w : Worlds p} → Calls p d w w
  outside : {w u v : Worlds p} → Calls p d w u → Step p (drawing d) (ours p hmac) u v → Calls p d w v
  handed : {w u : Worlds p} → Calls p d w u → (n : ℕ) (i : Input) → CanBring p (drawing d) u n (event_of i) → Calls p d w (world_after p n i u)

-- the promise over every sequence of calls
abbrev pub PromiseOnCalls : Type 0
PromiseOnCalls = (p : Params) (d : List ℕ) → in_range p ≡ true → (w : Worlds p) → Calls p d (start p (drawing d) (ours p hmac)) w → (n : ℕ) → KeptPromise p (drawing d) (ours p hmac) w n

-- what a call leaves in a site is what the definitions of the calls say
abbrev pub SameCalls : Type 0
SameCalls = (p : Params) (n : ℕ) (i : Input) (w : Worlds p) →
    (((world_after p n i w).sites n).held ≡ state_after p i (w.sites n).held) × (((world_after p n i w).sites n).got ≡ (w.sites n).got ++ delivered_of p i (w.sites n).held)
