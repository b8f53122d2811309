use Rattle.model.proofs.Witness.{exact}
use Rattle.model.proofs.exactness_stands.Goals as goal

pub returns : goal.returns
returns c = exact
