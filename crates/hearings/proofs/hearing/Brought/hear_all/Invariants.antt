use Rattle.std.proofs.Common.{◌≡◌, ℕ, ◌≤◌, get_or, take, vec_items}
use Rattle.receiver.specs.declared.state.Receiver.{Receiver}
use Rattle.hearings.specs.Hearings.{hearings_of, heard_from, HeardUpTo}
use Rattle.hearings.specs.Saids.{sayings_of}
use Rattle.hearings.proofs.hearing.Brought.hear_all.Given as goal

-- those before have heard, and the others are as they were
abbrev pub invariant-loop-i : goal.invariant-loop-i
invariant-loop-i l = record {
  heard : hearings_of (vec_items l.all) ≡ heard_from (sayings_of l.self.said.now) 1 l.self.bytes.now (take l.i l.initial.receivers);
  left : (k : ℕ) (d : Receiver) → l.i ≤ k → get_or l.receivers k d ≡ get_or l.initial.receivers k d;
  states : HeardUpTo l.self.bytes.now l.i l.initial.receivers l.receivers;
}
