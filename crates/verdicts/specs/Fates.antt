-- What became of messages at receivers, from the events of a play.
use Rattle.std.specs.Prelude.{◌≡◌, ℕ, ◌+◌, ◌-◌, ◌*◌, ◌≤◌, Bool, true, false, cond, not, ◌&&◌, ◌||◌, List, [], length, take, drop, Some, None, Ok, Err, fold, Option, Result, ◌==◌, nat_le, nat_lt, slice_index_or}
use Rattle.timing.specs.Time.{Params, opening, release}
use Rattle.timing.specs.declared.refusal.Refusal.{Refusal}
use Rattle.timing.specs.declared.refusal.Refusal.TheVariants.{NoRoom}
use Rattle.model.specs.Receiver.{Message}
use Rattle.receiver.specs.declared.outcome.Accepted.{Accepted}
use Rattle.receiver.specs.declared.outcome.Accepted.TheVariants.{Buffered}
use Rattle.stage.specs.Saids.{said_at}
use Rattle.stage.specs.declared.event.Deed.{Deed}
use Rattle.stage.specs.declared.event.Deed.TheVariants.{Passed, Disclosed, Said, NotSaid, Told, Heard, Delivered, Judged}
use Rattle.stage.specs.declared.event.Event.{Event}
use Rattle.verdicts.specs.declared.fate.Fate.{Fate}
use Rattle.verdicts.specs.declared.fate.Pair.{Pair}

-- a message of an interval that reaches a receiver at a real time is in time: two errors of a clock later, the release of its key hasn't begun
abbrev pub is_in_time : Params → (interval time : ℕ) → Bool
is_in_time p i t = nat_lt (t + 2 * p.error) (opening p (release p i))

-- a clock that shows this at a real time is wrong by no more than its error
abbrev pub is_within : Params → (time clock : ℕ) → Bool
is_within p t c = nat_le t (c + p.error) && nat_le c (t + p.error)

abbrev pub is_buffered : Result Accepted Refusal → Bool
is_buffered (Ok Buffered) = true
is_buffered _ = false

abbrev pub is_no_room : Result Accepted Refusal → Bool
is_no_room (Err NoRoom) = true
is_no_room _ = false

abbrev pub no_fate : Fate
no_fate = record { in_time = false; outside = false; buffered = false; no_room = false; delivered = false }

-- the message reached the receiver in time, its clock within its error or not
abbrev pub reached_by : (within : Bool) → Result Accepted Refusal → Fate → Fate
reached_by w o f =
    record f { in_time = f.in_time || w; outside = f.outside || not w; buffered = f.buffered || is_buffered o; no_room = f.no_room || is_no_room o }

abbrev pub delivered_to : Fate → Fate
delivered_to f = record f { delivered = true }

-- of which message at which receiver something tells
abbrev pub pair_of : Deed → Option Pair
pair_of Passed = None
pair_of (Disclosed a) = None
pair_of (Said a k) = None
pair_of (NotSaid e) = None
pair_of (Told n t) = None
pair_of (Heard n c a None o) = None
pair_of (Heard n c a (Some k) o) = Some (record { message = k; receiver = n })
pair_of (Delivered n None) = None
pair_of (Delivered n (Some k)) = Some (record { message = k; receiver = n })
pair_of (Judged n c i j) = None

abbrev pub is_pair : (message receiver : ℕ) → Option Pair → Bool
is_pair k n None = false
is_pair k n (Some x) = x.message == k && x.receiver == n

-- what that makes of the fate, of a message of this interval, at this real time
abbrev pub changed_by : Params → (interval time : ℕ) → Deed → Fate → Fate
changed_by p i t Passed f = f
changed_by p i t (Disclosed a) f = f
changed_by p i t (Said a k) f = f
changed_by p i t (NotSaid e) f = f
changed_by p i t (Told n u) f = f
changed_by p i t (Heard n c a k o) f = cond (is_in_time p i t) (reached_by (is_within p t c) o f) f
changed_by p i t (Delivered n k) f = delivered_to f
changed_by p i t (Judged n c j g) f = f

-- the fate of a message at a receiver after one event more; messages and receivers count from 1
unfoldable pub fate_after : Params → List Message → (message receiver : ℕ) → Fate → Event → Fate
fate_after p said k n f e = cond (is_pair k n (pair_of e.deed)) (changed_by p (said_at said (k - 1)).interval e.time e.deed f) f

-- and after all events
abbrev pub fate_of : Params → (said : List Message) → List Event → (message receiver : ℕ) → Fate
fate_of p said es k n = fold (fate_after p said k n) no_fate es

-- where a fate stands: the fates of a message at all receivers stand together
abbrev pub place_of : (receivers message receiver : ℕ) → ℕ
place_of rs k n = (k - 1) * rs + (n - 1)

-- there are such a message and such a receiver
pub record IsThere (messages receivers : ℕ) (x : Pair) : Type 0 where
  pub some_message : 1 ≤ x.message
  pub few_messages : x.message ≤ messages
  pub some_receiver : 1 ≤ x.receiver
  pub few_receivers : x.receiver ≤ receivers

-- the fates of one message at all receivers
abbrev pub row_of : (receivers message : ℕ) → List Fate → List Fate
row_of rs k fs = cond (nat_le 1 k && nat_le (k * rs) (length fs)) (take rs (drop ((k - 1) * rs) fs)) []

-- the fate of each message at each receiver has moved on by a step
abbrev pub Moved : (step : (message receiver : ℕ) → Fate → Fate) → (messages receivers : ℕ) → (old new : List Fate) → Type 0
Moved step ms rs fs gs = (k n : ℕ) → 1 ≤ k → k ≤ ms → 1 ≤ n → n ≤ rs → slice_index_or gs (place_of rs k n) no_fate ≡ step k n (slice_index_or fs (place_of rs k n) no_fate)

-- these are the fates of all messages at all receivers
pub record AreFates (p : Params) (said : List Message) (es : List Event) (rs : ℕ) (fates : List Fate) : Type 0 where
  pub many : length fates ≡ length said * rs
  pub each : (k n : ℕ) → 1 ≤ k → k ≤ length said → 1 ≤ n → n ≤ rs → slice_index_or fates (place_of rs k n) no_fate ≡ fate_of p said es k n
