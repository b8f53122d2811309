-- Every sequence of calls is a run of the model.
use Rattle.std.proofs.Common.{◌≡◌, ℕ, true, List, length, Some, None, Option, refl, ◌∙◌, subst}
use Rattle.timing.specs.Time.{Params, in_range}
use Rattle.sha256.specs.Hmac.{hmac}
use Rattle.model.specs.Receiver as model
use Rattle.model.specs.Run.{Later, here, onward, start, brings}
use Rattle.model.proofs.Promises.{promise}
use Rattle.keychain.specs.Chain.{drawing}
use Rattle.sender.specs.State.{State}
use Rattle.sender_laws.specs.Run.{Event, tick, say, step}
use Rattle.sender_laws.specs.Worlds.{Stands, after_event}
use Rattle.sender_laws.proofs.Worlds.{lawful, stands_first, undisturbed}
use Rattle.sender_laws.proofs.Cases.{fixed_tick, fixed_said}
use Rattle.receiver.specs.Calls.{event_of}
use Rattle.receiver.specs.Worlds.{Worlds, brought_by, CanBring}
use Rattle.protocol.specs.Whole.{Runs, first, sender, receiver, PromiseOfWhole}

-- what holds of every sequence of calls
record Ran (p : Params) (d : List ℕ) (s : State) (w : Worlds p) : Type 0 where
  pub drawn_is : s.drawn ≡ d
  pub stands : Stands p s w
  pub later : Later p (drawing d) (model.ours p hmac) (start p (drawing d) (model.ours p hmac)) w

together : (p : Params) (d : List ℕ) {u v w : Worlds p} → Later p (drawing d) (model.ours p hmac) u v → Later p (drawing d) (model.ours p hmac) v w → Later p (drawing d) (model.ours p hmac) u w
together p d l here = l
together p d l (onward m s) = onward (together p d l m) s

same_drawn : (s : State) (e : Event) → (step s e).drawn ≡ s.drawn
same_drawn s (tick t) = (fixed_tick s t).drawn_same
same_drawn s (say text) = (fixed_said s text).drawn_same

brought_by_lem : (p : Params) (d : List ℕ) (s : State) (w : Worlds p) (n : ℕ) (o : Option model.Event) → CanBring p (drawing d) w n o → Ran p d s w → Ran p d s (brought_by p n o w)
brought_by_lem p d s w n None g r = r
brought_by_lem p d s w n (Some e) g r = record { drawn_is = r.drawn_is; stands = undisturbed p s w n e r.stands; later = onward r.later (brings w n e g) }

ran : (p : Params) (d : List ℕ) {s : State} {w : Worlds p} → in_range p ≡ true → length d ≡ 32 → Runs p d s w → Ran p d s w
ran p d a l first = record { drawn_is = refl; stands = stands_first p d a l; later = here }
ran p d a l (sender {s} {w} r e) =
    let h = ran p d a l r in
    let m = lawful p s w e h.stands in
    let P : List ℕ → Type 0 = λ z. Later p (drawing z) (model.ours p hmac) w (after_event p s e w) in
    record { drawn_is = same_drawn s e ∙ h.drawn_is; stands = m.stands; later = together p d h.later (subst P h.drawn_is m.later) }
ran p d a l (receiver {s} {w} r n i g) = brought_by_lem p d s w n (event_of i) g (ran p d a l r)

pub promise_of_whole : PromiseOfWhole
promise_of_whole p d s w a l r = let h = ran p d a l r in record { stands = h.stands; keeps = λ n. promise p (drawing d) a w h.later n }
