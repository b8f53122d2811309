-- What a receiver makes of bytes, by the model.
use Rattle.std.specs.Prelude.{◌≡◌, ℕ, ◌+◌, ◌-◌, ◌<◌, ◌≤◌, List, [], ◌∷◌, map, length, vec_items, slice_index_or}
use Rattle.model.specs.Receiver.{Said, Outcome}
use Rattle.orders.specs.declared.command.Whom.{Whom}
use Rattle.orders.specs.declared.command.Whom.TheVariants.{One, All}
use Rattle.receiver.specs.Calls.{from_air, state_after, outcome_of, delivered_of}
use Rattle.receiver.specs.State.{meant, params_of, state_of}
use Rattle.receiver.specs.declared.state.Receiver.{Receiver}
use Rattle.hearings.specs.declared.event.Hearing.{Hearing}
use Rattle.hearings.specs.Saids.{Marked, deliveries_of, marked}

pub record Heard : Type 0 where
  pub receiver : ℕ
  pub outcome : Outcome
  pub deliveries : List Marked

abbrev pub hearing_of : Hearing → Heard
hearing_of h = record { receiver = h.receiver; outcome = meant h.outcome; deliveries = deliveries_of (vec_items h.deliveries) }

-- the outcome and the deliveries of the receiver's rules, each delivery with whether it was said
abbrev pub heard_by : (said : List Said) → (number : ℕ) → (bytes : List ℕ) → Receiver → Heard
heard_by ss n b r = record { receiver = n; outcome = outcome_of (params_of r) (from_air b) (state_of r); deliveries = marked ss (delivered_of (params_of r) (from_air b) (state_of r)) }

abbrev pub hearings_of : List Hearing → List Heard
hearings_of hs = map hearing_of hs

-- every receiver, the first of which has this number
unfoldable pub heard_from : (said : List Said) → (number : ℕ) → (bytes : List ℕ) → List Receiver → List Heard
heard_from ss n b [] = []
heard_from ss n b (r ∷ rs) = heard_by ss n b r ∷ heard_from ss (n + 1) b rs

-- the first of the receivers are as the rules have them after the bytes
abbrev pub HeardUpTo : (bytes : List ℕ) → (count : ℕ) → (before after : List Receiver) → Type 0
HeardUpTo b n rs ss = (k : ℕ) (d : Receiver) → k < n → state_of (slice_index_or ss k d) ≡ state_after (params_of (slice_index_or rs k d)) (from_air b) (state_of (slice_index_or rs k d))

-- bytes brought to all are heard by every receiver; those brought to one, which has to be there, by that one
abbrev pub Brings : (said : List Said) → (to : Whom) → (bytes : List ℕ) → List Receiver → List Heard → Type 0
Brings ss All b rs hs = hs ≡ heard_from ss 1 b rs
Brings ss (One n) b rs hs = (1 ≤ n) × ((n ≤ length rs) × ((d : Receiver) → hs ≡ heard_by ss n b (slice_index_or rs (n - 1) d) ∷ []))
