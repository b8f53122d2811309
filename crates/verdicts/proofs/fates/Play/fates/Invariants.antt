use Rattle.std.proofs.Common.{◌≡◌, length, take, fold}
use Rattle.timing.specs.Time.{parameters_of}
use Rattle.buffer.specs.Buffers.{messages_in}
use Rattle.verdicts.specs.Fates.{Moved, fate_after}
use Rattle.verdicts.proofs.fates.Play.fates.Given as goal

abbrev pub invariant-loop-event : goal.invariant-loop-event
invariant-loop-event l = record {
  messages : l.fates.messages ≡ length l.self.said.now;
  receivers : l.fates.receivers ≡ l.self.receivers;
  moved : Moved (λ k n f. fold (fate_after (parameters_of l.self.parameters) (messages_in l.self.said.now) k n) f (take l.event-index l.event-items)) (length l.self.said.now) l.self.receivers l.initial.fates.all.items l.fates.all.items;
}
