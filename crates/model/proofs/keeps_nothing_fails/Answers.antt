use Rattle.model.proofs.Wrong.{must_keep}
use Rattle.model.proofs.keeps_nothing_fails.Goals as goal

pub returns : goal.returns
returns c = must_keep
