-- What was said, and deliveries beside it.
use Rattle.std.specs.Prelude.{Bool, true, false, ◌&&◌, List, map, vec_items, ◌==◌}
use Rattle.std.specs.List.{list_any}
use Rattle.std.specs.Str.{bytes_eq}
use Rattle.model.specs.Receiver.{Said}
use Rattle.hearings.specs.declared.event.Delivery.{Delivery}
use Rattle.hearings.specs.declared.event.Delivery.TheVariants as delivery
use Rattle.hearings.specs.declared.event.Saying.{Saying}

abbrev pub saying_of : Saying → Said
saying_of s = record { interval = s.interval; index = s.index; text = vec_items s.text }

abbrev pub sayings_of : List Saying → List Said
sayings_of ss = map saying_of ss

-- interval, index and text are the same
abbrev pub same_said : Said → Said → Bool
same_said a b = a.interval == b.interval && (a.index == b.index && bytes_eq a.text b.text)

-- among what was said
abbrev pub is_among_said : List Said → Said → Bool
is_among_said ss s = list_any (λ x. same_said x s) ss

-- a delivery, with whether it was said
pub record Marked : Type 0 where
  pub says : Said
  pub said : Bool

abbrev pub delivery_of : Delivery → Marked
delivery_of (delivery.Said s) = record { says = saying_of s; said = true }
delivery_of (delivery.NotSaid s) = record { says = saying_of s; said = false }

abbrev pub deliveries_of : List Delivery → List Marked
deliveries_of ds = map delivery_of ds

abbrev pub mark : (said : List Said) → Said → Marked
mark ss s = record { says = s; said = is_among_said ss s }

-- each with whether it is among what was said
abbrev pub marked : (said : List Said) → List Said → List Marked
marked ss ds = map (mark ss) ds
