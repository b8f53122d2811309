-- What stands while a script is followed, and what an order makes of it.
use Rattle.std.specs.Prelude.{ℕ, Bool, true, false, cond, ◌&&◌, List, [], ◌++◌, length, is_some, Some, None, Ok, Err, vec_items, Option, Result, ◌==◌, nat_le}
use Rattle.timing.specs.Clocks.{clocks_answer, clocks_after}
use Rattle.timing.specs.Time.{Params, params, parameters_of, in_range}
use Rattle.timing.specs.declared.refusal.Refusal.{Refusal}
use Rattle.timing.specs.declared.refusal.Refusal.TheVariants.{Malformed, OutOfRange, BadSettings}
use Rattle.scenario.specs.declared.arrival.Arrival.{Arrival}
use Rattle.scenario.specs.declared.receivers.Receivers.{Receivers}
use Rattle.scenario.specs.declared.scene.Scene.{Scene}
use Rattle.scenario.specs.declared.scene.Scene.TheVariants as scene
use Rattle.script.specs.Commands.{Order}
use Rattle.script.specs.Commands as order
use Rattle.scenario.specs.Scenes.{at_zero, clock_answer, clock_after, arrivals}

-- the settings, once they are given; what every clock shows, none before the receivers are given; what was heard, the
-- oldest first; whether `end` was read
pub record State : Type 0 where
  pub settings : Option Params
  pub clocks : List ℕ
  pub heard : List Arrival
  pub ended : Bool

abbrev pub state : Option Params → List ℕ → List Arrival → Bool → State
state p cs hs b = record { settings = p; clocks = cs; heard = hs; ended = b }

abbrev pub start : State
start = state None [] [] false

abbrev pub with_receivers : Receivers → (ended : Bool) → State
with_receivers r b = state (Some (parameters_of r.parameters)) (vec_items r.clocks) (vec_items r.heard) b

abbrev pub state_of : Scene → State
state_of scene.Bare = start
state_of (scene.Settled p) = state (Some (parameters_of p)) [] [] false
state_of (scene.Open r) = with_receivers r false
state_of (scene.Ended r) = with_receivers r true

-- only once
abbrev pub settled : State → (ticks delay error last : ℕ) → Result State Refusal
settled s t d e n =
    cond (is_some s.settings) (Err Malformed) (cond (in_range (params t d e n)) (Ok (state (Some (params t d e n)) s.clocks s.heard s.ended)) (Err BadSettings))

abbrev pub no_receivers : State → Bool
no_receivers s = length s.clocks == 0

abbrev pub with_clocks : State → Result (List ℕ) Refusal → Result State Refusal
with_clocks s (Ok cs) = Ok (state s.settings cs s.heard s.ended)
with_clocks s (Err e) = Err e

-- after the settings, and only once
abbrev pub gathered : State → (count : ℕ) → Result State Refusal
gathered s n = cond (is_some s.settings && no_receivers s) (with_clocks s (at_zero n)) (Err Malformed)

abbrev pub after_told : State → Result Unit Refusal → List ℕ → Result State Refusal
after_told s (Ok u) cs = Ok (state s.settings cs s.heard s.ended)
after_told s (Err e) cs = Err e

abbrev pub told_all : State → (ticks : List ℕ) → Result State Refusal
told_all s ts = cond (no_receivers s) (Err Malformed) (after_told s (clocks_answer s.clocks ts) (clocks_after s.clocks ts))

abbrev pub told_one : State → (receiver tick : ℕ) → Result State Refusal
told_one s r t = cond (no_receivers s) (Err Malformed) (after_told s (clock_answer s.clocks r t) (clock_after s.clocks r t))

abbrev reached : (line : ℕ) → State → Option Params → (interval : ℕ) → Result State Refusal
reached l s None i = Err Malformed
reached l s (Some p) i =
    cond (no_receivers s) (Err Malformed) (cond (nat_le 1 i && nat_le i p.last) (Ok (state s.settings s.clocks (s.heard ++ arrivals p l i 1 s.clocks) s.ended)) (Err OutOfRange))

abbrev pub messaged : (line : ℕ) → State → (interval : ℕ) → Result State Refusal
messaged l s i = reached l s s.settings i

abbrev pub finished : State → Result State Refusal
finished s = cond (no_receivers s) (Err Malformed) (Ok (state s.settings s.clocks s.heard true))

abbrev pub followed : (line : ℕ) → State → Order → Result State Refusal
followed l s (order.settings t d e n) = settled s t d e n
followed l s (order.receivers n) = gathered s n
followed l s (order.clocks ts) = told_all s ts
followed l s (order.clock r t) = told_one s r t
followed l s (order.message i) = messaged l s i
followed l s order.end = finished s

-- nothing comes after `end`
abbrev pub obeyed : (line : ℕ) → State → Order → Result State Refusal
obeyed l s o = cond s.ended (Err Malformed) (followed l s o)

-- a line that is no order changes nothing
abbrev pub stepped : (line : ℕ) → State → Result (Option Order) Refusal → Result State Refusal
stepped l s (Ok None) = Ok s
stepped l s (Ok (Some o)) = obeyed l s o
stepped l s (Err e) = Err e

-- what was heard, if there was an `end`
abbrev pub ended : State → Result (List Arrival) Refusal
ended s = cond s.ended (Ok s.heard) (Err Malformed)
