-- Deeds that are noted.
use Rattle.std.proofs.Common.{◌≡◌, ℕ, ◌-◌, List, [], ◌∷◌, ◌++◌, Some, None, vec_items, Option, sym, ap, ◌∙◌, subst, slice_index_or}
use Rattle.model.specs.Receiver.{Said}
use Rattle.receiver.specs.declared.state.Receiver.{Receiver}
use Rattle.orders.specs.declared.command.Command.{Command}
use Rattle.orders.specs.declared.command.Command.TheVariants as command
use Rattle.orders.specs.declared.command.Whom.{Whom}
use Rattle.hearings.specs.declared.event.Deed.{Deed}
use Rattle.hearings.specs.Hearings.{Heard, Brings}
use Rattle.simulation.specs.declared.cast.Cast.{Cast}
use Rattle.simulation.specs.Casts.{bytes_of, event_at, Reached, Hears, Stays, Does, Performed}

-- noted, or nothing to note
abbrev pub Noted : (line : ℕ) → Option Deed → (before after : Cast) → Type 0
Noted n None b a = a ≡ b
Noted n (Some d) b a = (vec_items a.events ≡ vec_items b.events ++ event_at n d ∷ []) × (a.air ≡ b.air)

heard : (n : ℕ) (k : Option ℕ) (w : Whom) (x : List ℕ) (b m a : Cast) (d : Deed) → Hears k w x b m d → Noted n (Some d) m a → Reached n k w x b a
heard n k w x b m a d h e = record {
  hearings = h.hearings;
  event = e.0 ∙ ap (λ v. vec_items v ++ event_at n d ∷ []) h.stays.events ∙ ap (λ y. vec_items b.events ++ event_at n y ∷ []) h.brought;
  heard = h.heard;
  air_stays = ap (λ v. bytes_of (vec_items v)) (e.1 ∙ h.stays.air);
}

air_by : (n : ℕ) (d : Option Deed) (m a : Cast) → Noted n d m a → a.air ≡ m.air
air_by n None m a e = ap (λ (c : Cast). c.air) e
air_by n (Some d) m a e = e.1

none_by : (n : ℕ) (d : Option Deed) (b m a : Cast) → d ≡ None → Stays b m → Noted n d m a → Stays b a
none_by n None b m a z s e = record { air = ap (λ (c : Cast). c.air) e ∙ s.air; events = ap (λ (c : Cast). c.events) e ∙ s.events }
none_by n (Some d) b m a z s e = cc

some_by : (n : ℕ) (d : Option Deed) (x : Deed) (m a : Cast) → d ≡ Some x → Noted n d m a → Noted n (Some x) m a
some_by n None x m a z e = cc
some_by n (Some d) x m a z e = let k : d ≡ x = cc in (e.0 ∙ ap (λ y. vec_items m.events ++ event_at n y ∷ []) k, e.1)

pub performed : (n : ℕ) (o : Command) (d : Option Deed) (b m a : Cast) → Does o b m d → Noted n d m a → Performed n o b a
performed n (command.Time t) d b m a h e = ap (λ v. bytes_of (vec_items v)) (air_by n d m a e) ∙ h.0
performed n (command.Say t) d b m a h e = ap (λ v. bytes_of (vec_items v)) (air_by n d m a e) ∙ h.0
performed n (command.Clock r t) d b m a h e = none_by n d b m a h.0 h.1 e
performed n (command.Clocks ts) d b m a h e = none_by n d b m a h.0 h.1 e
performed n (command.Bring k w) d b m a (x, z, h) e = (h.first, (h.last, λ v. heard n (Some k) w (vec_items (slice_index_or (vec_items b.air) (k - 1) v)) b m a x (h.hears v) (some_by n d x m a z e)))
performed n (command.Bytes w y) d b m a (x, z, h) e = heard n None w (vec_items y) b m a x h (some_by n d x m a z e)
performed n command.Play d b m a h e = h
performed n (command.Settings s) d b m a h e = h
performed n (command.Drawn k) d b m a h e = h
performed n (command.Receivers k) d b m a h e = h
performed n command.End d b m a h e = h

pub brings_by : (ss ts : List Said) (to : Whom) (b : List ℕ) (rs qs : List Receiver) (hs : List Heard) → ss ≡ ts → rs ≡ qs → Brings ss to b rs hs → Brings ts to b qs hs
brings_by ss ts to b rs qs hs e f h =
    let P : List Said → Type 0 = λ x. Brings x to b rs hs in
    let Q : List Receiver → Type 0 = λ x. Brings ts to b x hs in
    subst Q f (subst P e h)

pub performed_by : (n : ℕ) (o : Command) (d : Option Deed) (x : Deed) (b m a : Cast) → d ≡ Some x → Does o b m d → vec_items a.events ≡ vec_items m.events ++ event_at n x ∷ [] → a.air ≡ m.air → Performed n o b a
performed_by n o d x b m a z h e f =
    let P : Option Deed → Type 0 = λ y. Noted n y m a in
    performed n o d b m a h (subst P (sym z) (e, f))
