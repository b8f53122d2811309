-- From what a call leaves to the worlds that it stands for, and the promise over every sequence of calls.
use Rattle.std.proofs.Common.{◌≡◌, ℕ, true, false, cond, eqb, ltb, List, [], ◌∷◌, ◌++◌, Some, None, Option, sym, refl, ap, ◌∙◌, append-nil}
use Rattle.std.proofs.lemmas.Bool.{cond_both, cond-true, eq-eqb}
use Rattle.timing.specs.Time.{Params, parameters_of}
use Rattle.sha256.specs.Hmac.{hmac}
use Rattle.model.specs.Receiver.{Said, Message, Event, ticked, heard, disclosed, State, ours, hears, learns, judge, is_buffered, judge_key, is_taken, later_than, after}
use Rattle.model.specs.Run.{Site, Later, here, onward, brings, brought, site_after, clock_after}
use Rattle.model.proofs.Promises.{promise}
use Rattle.keychain.specs.Chain.{drawing}
use Rattle.receiver.specs.declared.state.Receiver.{Receiver}
use Rattle.receiver.specs.State.{params_of, state_of}
use Rattle.wire.specs.Formats.{read_tick}
use Rattle.receiver.specs.Calls.{Input, own_clock, tick_event, event_of, state_by, delivered_by, state_after, delivered_of}
use Rattle.receiver.specs.Worlds.{Worlds, Stands, brought_by, world_after, CanBring, CallStands, Calls, none, outside, handed, PromiseOnCalls, SameCalls}

hears_clock : (p : Params) (x : Message) (s : State) → (hears p x s).clock ≡ s.clock
hears_clock p x s =
    cond_both (is_buffered (judge p s x)) (record { clock = s.clock; newest = s.newest; key = s.key; buffer = s.buffer ++ (x ∷ []) }) s (λ u. u.clock ≡ s.clock) (λ e. refl) (λ e. refl)

learns_clock : (p : Params) (j : ℕ) (k : List ℕ) (s : State) → (learns p hmac j k s).clock ≡ s.clock
learns_clock p j k s =
    cond_both (is_taken (judge_key p hmac j k s)) (record { clock = s.clock; newest = j; key = k; buffer = later_than j s.buffer }) s (λ u. u.clock ≡ s.clock) (λ e. refl) (λ e. refl)

clock_after_lem : (p : Params) (e : Event) (s : State) → (after p hmac e s).clock ≡ clock_after e s.clock
clock_after_lem p (ticked t) s =
    elim (ltb t s.clock) as (λ b. (cond b s (record { clock = t; newest = s.newest; key = s.key; buffer = s.buffer })).clock ≡ cond b s.clock t) [ true ↦ refl | false ↦ refl ]
clock_after_lem p (heard x j k) s = learns_clock p j k (hears p x s) ∙ hears_clock p x s
clock_after_lem p (disclosed j k) s = learns_clock p j k s

put_same : (p : Params) (n : ℕ) (e : Event) (w : Worlds p) → (brought n e w).sites n ≡ site_after (ours p hmac) e (w.sites n)
put_same p n e w = cond-true (eqb n n) (site_after (ours p hmac) e (w.sites n)) (w.sites n) (eq-eqb n n refl)

stands_by : (p : Params) (n : ℕ) (o : Option Event) (r r' : Receiver) (w : Worlds p) → r'.parameters ≡ r.parameters → state_of r' ≡ state_by (params_of r) o (state_of r) → Stands p n r w → Stands p n r' (brought_by p n o w)
stands_by p n None r r' w q e h = record {
  settings_are = ap parameters_of q ∙ h.settings_are;
  clock_is = h.clock_is ∙ sym (ap (λ (s : State). s.clock) e);
  held_is = h.held_is ∙ sym e;
}
stands_by p n (Some v) r r' w q e h =
    let same = put_same p n v w in
    let f : state_of r' ≡ after p hmac v (state_of r) = e ∙ ap (λ (z : Params). after z hmac v (state_of r)) h.settings_are in
    record {
      settings_are = ap parameters_of q ∙ h.settings_are;
      clock_is = ap (λ (a : Site (ours p hmac)). a.clock) same ∙ ap (clock_after v) h.clock_is ∙ sym (clock_after_lem p v (state_of r)) ∙ sym (ap (λ (s : State). s.clock) f);
      held_is = ap (λ (a : Site (ours p hmac)). a.held) same ∙ ap (after p hmac v) h.held_is ∙ sym f;
    }

got_by : (p : Params) (n : ℕ) (o : Option Event) (w : Worlds p) → ((brought_by p n o w).sites n).got ≡ (w.sites n).got ++ delivered_by p o (w.sites n).held
got_by p n None w = sym (append-nil (w.sites n).got)
got_by p n (Some v) w = ap (λ (a : Site (ours p hmac)). a.got) (put_same p n v w)

held_by : (p : Params) (n : ℕ) (o : Option Event) (w : Worlds p) → ((brought_by p n o w).sites n).held ≡ state_by p o (w.sites n).held
held_by p n None w = refl
held_by p n (Some v) w = ap (λ (a : Site (ours p hmac)). a.held) (put_same p n v w)

later_by : (p : Params) (d : List ℕ) (n : ℕ) (o : Option Event) {u w : Worlds p} → Later p (drawing d) (ours p hmac) u w → CanBring p (drawing d) w n o → Later p (drawing d) (ours p hmac) u (brought_by p n o w)
later_by p d n None l g = l
later_by p d n (Some v) {u} {w} l g = onward l (brings w n v g)

pub call_stands : (p : Params) (n : ℕ) (i : Input) (r r' : Receiver) (out : List Said) (w : Worlds p) → r'.parameters ≡ r.parameters → state_of r' ≡ state_after (params_of r) i (state_of r) → out ≡ delivered_of (params_of r) i (state_of r) →
    Stands p n r w → CallStands p n i r' out w
call_stands p n i r r' out w q e f h = record {
  stands = stands_by p n (event_of i) r r' w q e h;
  delivers =
      got_by p n (event_of i) w ∙ ap (λ (s : State). (w.sites n).got ++ delivered_of p i s) h.held_is ∙ ap (λ (z : Params). (w.sites n).got ++ delivered_of z i (state_of r)) (sym h.settings_are) ∙ ap (λ (l : List Said). (w.sites n).got ++ l) (sym f);
  keeps = λ d a l g m. promise p (drawing d) a (world_after p n i w) (later_by p d n (event_of i) l g) m;
}

calls_later : (p : Params) (d : List ℕ) {u w : Worlds p} → Calls p d u w → Later p (drawing d) (ours p hmac) u w
calls_later p d none = here
calls_later p d (outside c s) = onward (calls_later p d c) s
calls_later p d (handed c n i g) = later_by p d n (event_of i) (calls_later p d c) g

pub promise_on_calls : PromiseOnCalls
promise_on_calls p d a w c n = promise p (drawing d) a w (calls_later p d c) n

pub same_calls : SameCalls
same_calls p n i w = (held_by p n (event_of i) w, got_by p n (event_of i) w)

quiet : (p : Params) (o : Option ℕ) (s : State) → [] ≡ delivered_by p (tick_event o) s
quiet p None s = refl
quiet p (Some t) s = refl

-- a clock delivers nothing
pub clock_quiet : (p : Params) (b : List ℕ) (s : State) → [] ≡ delivered_of p (own_clock b) s
clock_quiet p b s = quiet p (read_tick b) s
