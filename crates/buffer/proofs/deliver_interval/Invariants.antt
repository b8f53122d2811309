use Rattle.std.proofs.Common.{length, take}
use Rattle.buffer.specs.Buffers.{messages_of}
use Rattle.buffer.proofs.Part.{Part}
use Rattle.buffer.proofs.deliver_interval.Given as goal

abbrev pub invariant-loop-m : goal.invariant-loop-m
invariant-loop-m l = Part l.interval l.buffer l.keys l.initial.out l.out l.tags (take (length l.yielded) (messages_of l.buffer))
