use Rattle.model.proofs.Wrong.{must_compare}
use Rattle.model.proofs.takes_any_key_fails.Goals as goal

pub returns : goal.returns
returns c = must_compare
