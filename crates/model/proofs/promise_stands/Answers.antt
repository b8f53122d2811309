use Rattle.model.proofs.Promises.{promise}
use Rattle.model.proofs.promise_stands.Goals as goal

pub returns : goal.returns
returns c = promise
