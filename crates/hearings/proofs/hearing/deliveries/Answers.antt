use Rattle.std.proofs.Common.{arith, rules}
use Rattle.std.proofs.lemmas.Grind.{common_steps}
use Rattle.std.proofs.lemmas.List.{map-append}
use Rattle.buffer.specs.Buffers.{messages_in, saids_in}
use Rattle.hearings.proofs.Among.{saids_more}
use Rattle.hearings.proofs.hearing.deliveries.Goals as goal

pub loop-m-init : goal.loop-m-init
unfolding messages_in saids_in
loop-m-init c = search rules

pub loop-m-preserved : goal.loop-m-preserved
loop-m-preserved c = grind (arith, common_steps, map-append, saids_more)
