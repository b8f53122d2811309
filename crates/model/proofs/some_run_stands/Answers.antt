use Rattle.model.proofs.Witness.{some_run}
use Rattle.model.proofs.some_run_stands.Goals as goal

pub returns : goal.returns
returns c = some_run
