use Rattle.receiver.proofs.Called.{fits, both_heard}
use Rattle.wire.specs.Values.{packet_of}
use Rattle.receiver.proofs.calls.hear_message.Goals as goal

pub hear-outcome-requires : goal.hear-outcome-requires
hear-outcome-requires c = fits (packet_of c.args.m) c.requires

pub returns : goal.returns
returns c =
    let x = packet_of c.args.m in
    both_heard x.message x.behind.interval x.behind.key c.args.r.now c.hear-outcome.new.r c.learn-learned.new.r c.hear-outcome.result c.learn-learned.result _ c.hear-outcome.ensures.state c.hear-outcome.ensures.outcome c.learn-learned.ensures
