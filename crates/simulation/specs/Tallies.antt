-- How much happened, counted.
use Rattle.std.specs.Prelude.{ℕ, ◌+◌, ◌-◌, ◌^◌, Bool, true, false, cond, List, length, min, vec_items, is_ok, count_by}
use Rattle.std.specs.List.{fold}
use Rattle.hearings.specs.declared.event.Deed.{Deed}
use Rattle.hearings.specs.declared.event.Deed.TheVariants as deed
use Rattle.hearings.specs.declared.event.Delivery.{Delivery}
use Rattle.hearings.specs.declared.event.Delivery.TheVariants as delivery
use Rattle.hearings.specs.declared.event.Event.{Event}
use Rattle.hearings.specs.declared.event.Hearing.{Hearing}
use Rattle.simulation.specs.declared.counts.Counts.{Counts}

-- nothing happened
unfoldable pub none : Counts
none = record { sent = 0; not_said = 0; brought = 0; refused = 0; delivered = 0; said = 0 }

-- the sum, or the most of 64 bits
abbrev pub sum_or_most : ℕ → ℕ → ℕ
sum_or_most a b = min (a + b) (2 ^ 64 - 1)

unfoldable pub both : Counts → Counts → Counts
both a b = record {
  sent = sum_or_most a.sent b.sent;
  not_said = sum_or_most a.not_said b.not_said;
  brought = sum_or_most a.brought b.brought;
  refused = sum_or_most a.refused b.refused;
  delivered = sum_or_most a.delivered b.delivered;
  said = sum_or_most a.said b.said;
}

abbrev pub is_said : Delivery → Bool
is_said (delivery.Said s) = true
is_said (delivery.NotSaid s) = false

-- bytes are brought to a receiver
unfoldable pub of_hearing : Hearing → Counts
of_hearing h = record none { brought = 1; refused = cond (is_ok h.outcome) 0 1; delivered = length (vec_items h.deliveries); said = count_by is_said (vec_items h.deliveries) }

abbrev pub of_deed : Deed → Counts
of_deed (deed.Sent n s) = record none { sent = 1 }
of_deed (deed.NotSaid e) = record none { not_said = 1 }
of_deed (deed.Brought k hs) = fold (λ a h. both a (of_hearing h)) none (vec_items hs)

abbrev pub of_events : List Event → Counts
of_events es = fold (λ a e. both a (of_deed e.deed)) none es
