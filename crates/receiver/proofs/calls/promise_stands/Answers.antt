use Rattle.receiver.proofs.Stood.{promise_on_calls, same_calls}
use Rattle.receiver.proofs.calls.promise_stands.Goals as goal

pub returns : goal.returns
returns c = record { promise = promise_on_calls; calls = same_calls }
