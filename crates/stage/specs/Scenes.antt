-- What stands in a play, and what each call makes of it.
use Rattle.std.specs.Prelude.{ℕ, ◌+◌, cond, List, [], ◌∷◌, ◌++◌, map, length, Some, None, Ok, Err, vec_items, fold, Option, Result, Vec, nat_lt, slice_get, slice_set}
use Rattle.std.specs.Option.{option_map_or}
use Rattle.std.specs.declared.alloc.Global.{Global}
use Rattle.timing.specs.declared.refusal.Refusal.{Refusal}
use Rattle.timing.specs.Judged.{judged}
use Rattle.timing.specs.Time.{Params}
use Rattle.model.specs.Receiver.{Said, Message}
use Rattle.model.specs.Receiver as model
use Rattle.wire.specs.Formats.{Key, key_encoded, message_encoded, tick_encoded, air_event}
use Rattle.buffer.specs.Buffers.{messages_in, saids_in}
use Rattle.receiver.specs.Calls.{Input, own_clock, from_air, state_after, outcome_of, delivered_of}
use Rattle.receiver.specs.State.{params_of, state_of}
use Rattle.receiver.specs.declared.outcome.Accepted.{Accepted}
use Rattle.receiver.specs.declared.outcome.Accepted.TheVariants as accepted
use Rattle.receiver.specs.declared.state.Receiver.{Receiver}
use Rattle.sender.specs.Of as sender
use Rattle.sender.specs.State.{State, ticked, tick_answer, Ticked, back, nothing, told, said, say_answer, Spoken, refused, sent}
use Rattle.stage.specs.declared.cast.Cast.{Cast}
use Rattle.stage.specs.declared.cast.Out.{Out}
use Rattle.stage.specs.declared.event.Deed.{Deed}
use Rattle.stage.specs.declared.event.Deed.TheVariants.{Passed, Disclosed, Said as SaidOne, NotSaid, Told, Heard, Delivered, Judged}
use Rattle.stage.specs.declared.event.Event.{Event}
use Rattle.stage.specs.Saids.{which_said, which_message}

-- a receiver: its settings and its state
pub record Site : Type 0 where
  pub numbers : Params
  pub state : model.State

abbrev pub site_of : Receiver → Site
site_of r = record { numbers = params_of r; state = state_of r }

abbrev pub sites_of : List Receiver → List Site
sites_of rs = map site_of rs

abbrev pub bytes_of : List (Vec ℕ Global) → List (List ℕ)
bytes_of rs = map vec_items rs

-- time: the real time; air: what was sent, the oldest first; said: the messages among it;
-- out: the newest key that was disclosed; unsaid: what was delivered and not said, in order
pub record Scene : Type 0 where
  pub time : ℕ
  pub sender : State
  pub sites : List Site
  pub air : List (List ℕ)
  pub said : List Message
  pub out : Key
  pub events : List Event
  pub unsaid : List Said

abbrev pub out_of : Out → Key
out_of o = record { interval = o.interval; key = o.key.bytes }

abbrev pub scene_of : Cast → Scene
scene_of c = record {
  time = c.time;
  sender = sender.state_of c.sender;
  sites = sites_of (vec_items c.receivers);
  air = bytes_of (vec_items c.air);
  said = messages_in (vec_items c.said);
  out = out_of c.out;
  events = vec_items c.events;
  unsaid = saids_in (messages_in (vec_items c.unsaid));
}

-- one event more, now
abbrev pub noted : (line : ℕ) → Deed → Scene → Scene
noted l d s = record s { events = s.events ++ record { line = l; time = s.time; deed = d } ∷ [] }

abbrev pub newer : Key → Key → Key
newer o k = cond (nat_lt o.interval k.interval) k o

-- what is sent is noticed: a message is said, and a key is out
abbrev pub noticed : Option model.Event → Scene → Scene
noticed None s = s
noticed (Some (model.ticked t)) s = s
noticed (Some (model.heard x j k)) s = record s { said = s.said ++ x ∷ []; out = newer s.out (record { interval = j; key = k }) }
noticed (Some (model.disclosed j k)) s = record s { out = newer s.out (record { interval = j; key = k }) }

-- bytes go on the air
abbrev pub on_air : List ℕ → Scene → Scene
on_air b s = noticed (air_event b) (record s { air = s.air ++ b ∷ [] })

-- the sender was given a tick: what came of it, after it has passed
abbrev pub tick_noted : (line tick : ℕ) → Ticked → Scene → Scene
tick_noted l t back s = s
tick_noted l t nothing s = noted l Passed (record s { time = t })
tick_noted l t (told k) s = noted l (Disclosed (length s.air + 1)) (on_air (key_encoded k) (noted l Passed (record s { time = t })))

unfoldable pub time_passed : (line tick : ℕ) → Scene → Scene
time_passed l t s = tick_noted l t (tick_answer s.sender t) (record s { sender = ticked s.sender t })

-- the sender was given a text
abbrev pub said_noted : (line number : ℕ) → Scene → Scene
said_noted l n s = noted l (SaidOne n (length s.said)) s

abbrev pub say_noted : (line : ℕ) → Spoken → Scene → Scene
say_noted l (refused e) s = noted l (NotSaid e) s
say_noted l (sent x) s = said_noted l (length s.air + 1) (on_air (message_encoded x) s)

unfoldable pub spoken : (line : ℕ) → (text : List ℕ) → Scene → Scene
spoken l t s = say_noted l (say_answer s.sender t) (record s { sender = said s.sender t })

-- a receiver after it was handed something
abbrev pub site_after : Input → Site → Site
site_after i r = record r { state = state_after r.numbers i r.state }

abbrev pub moved : (place : ℕ) → Input → Site → Scene → Scene
moved n i r s = record s { sites = slice_set s.sites n (site_after i r) }

-- what comes of a receiver; places count from 0, and nothing does of one that isn't there
abbrev pub of_site : (place : ℕ) → (Site → Scene) → Scene → Scene
of_site n f s = option_map_or f (slice_get s.sites n) s

-- a receiver is told a tick of its own clock
unfoldable pub clock_told : (line place tick : ℕ) → Scene → Scene
clock_told l n t s = of_site n (λ r. noted l (Told (n + 1) t) (moved n (own_clock (tick_encoded t)) r s)) s

-- what an outcome is called in the code
abbrev pub named : model.Outcome → Result Accepted Refusal
named model.told = Ok accepted.Told
named model.buffered = Ok accepted.Buffered
named model.already = Ok accepted.Already
named model.taken = Ok accepted.Taken
named (model.refused e) = Err e

-- a receiver delivers something: which message it is, if it was said
abbrev pub unsaid_too : Option ℕ → Said → Scene → Scene
unsaid_too (Some k) d s = s
unsaid_too None d s = record s { unsaid = s.unsaid ++ d ∷ [] }

abbrev pub delivered_one : (line receiver : ℕ) → Said → Scene → Scene
delivered_one l r d s = unsaid_too (which_said s.said d) d (noted l (Delivered r (which_said s.said d)) s)

abbrev pub delivered_all : (line receiver : ℕ) → List Said → Scene → Scene
delivered_all l r ds s = fold (λ t d. delivered_one l r d t) s ds

-- what a receiver hears: which record it is, if it is brought as one
abbrev pub hearing_of : Site → (receiver : ℕ) → Option ℕ → List Message → (bytes : List ℕ) → Deed
hearing_of a r k ms b = Heard r a.state.clock k (which_message ms (air_event b)) (named (outcome_of a.numbers (from_air b) a.state))

-- bytes reach a receiver, which delivers
unfoldable pub heard_by : (line : ℕ) → Option ℕ → (place : ℕ) → (bytes : List ℕ) → Scene → Scene
heard_by l k n b s =
    of_site n (λ r. delivered_all l (n + 1) (delivered_of r.numbers (from_air b) r.state) (noted l (hearing_of r (n + 1) k s.said b) (moved n (from_air b) r s))) s

-- a message of an interval, by a receiver's clock alone
abbrev pub judgement_of : Site → (receiver interval : ℕ) → Deed
judgement_of a r i = Judged r a.state.clock i (judged a.numbers a.state.clock i)

unfoldable pub judged_by : (line place interval : ℕ) → Scene → Scene
judged_by l n i s = of_site n (λ r. noted l (judgement_of r (n + 1) i) s) s
