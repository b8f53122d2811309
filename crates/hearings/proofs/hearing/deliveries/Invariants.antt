use Rattle.std.proofs.Common.{◌≡◌, take, vec_items}
use Rattle.buffer.specs.Buffers.{messages_in, saids_in}
use Rattle.hearings.specs.Saids.{sayings_of, deliveries_of, marked}
use Rattle.hearings.proofs.hearing.deliveries.Given as goal

abbrev pub invariant-loop-m : goal.invariant-loop-m
invariant-loop-m l = deliveries_of (vec_items l.all) ≡ marked (sayings_of l.said) (saids_in (messages_in (take l.m-index l.m-items)))
