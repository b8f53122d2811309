use Rattle.std.proofs.Common.{◌≡◌, take}
use Rattle.buffer.specs.Buffers.{messages_in, saids_in}
use Rattle.stage.specs.Scenes.{scene_of, delivered_all}
use Rattle.stage.proofs.cast.Cast.deliver_all.Given as goal

abbrev pub invariant-loop-m : goal.invariant-loop-m
invariant-loop-m l = scene_of l.self ≡ delivered_all l.line l.receiver (saids_in (messages_in (take l.m-index l.m-items))) (scene_of l.initial.self)
