-- Among what was said, and what buffered messages say.
use Rattle.std.proofs.Common.{◌≡◌, ◌||◌, List, [], ◌∷◌, ◌++◌, map, refl, ap}
use Rattle.std.specs.List.{list_any}
use Rattle.buffer.specs.Buffers.{as_said, messages_in, saids_in}
use Rattle.buffer.specs.declared.message.Buffered.{Buffered}
use Rattle.model.specs.Receiver.{Said}
use Rattle.hearings.specs.declared.event.Saying.{Saying}
use Rattle.hearings.specs.Saids.{saying_of, sayings_of, same_said, is_among_said}

pub among_by : (ss : List Saying) (s : Said) → list_any (λ x. same_said (saying_of x) s) ss ≡ is_among_said (sayings_of ss) s
among_by [] s = refl
among_by (x ∷ ss) s = ap (λ b. same_said (saying_of x) s || b) (among_by ss s)

pub saids_more : (ms : List Buffered) (m : Buffered) → saids_in (messages_in (ms ++ m ∷ [])) ≡ saids_in (messages_in ms) ++ as_said m ∷ []
unfolding saids_in messages_in
saids_more [] m = refl
saids_more (x ∷ ms) m = ap (λ r. as_said x ∷ r) (saids_more ms m)
