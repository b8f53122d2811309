use Rattle.model.proofs.Wrong.{error_once}
use Rattle.model.proofs.twice_the_error_fails.Goals as goal

pub returns : goal.returns
returns c = error_once
