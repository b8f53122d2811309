use Rattle.protocol.proofs.Both.{promise_of_whole}
use Rattle.protocol.proofs.promise_stands.Goals as goal

pub returns : goal.returns
returns c = promise_of_whole
