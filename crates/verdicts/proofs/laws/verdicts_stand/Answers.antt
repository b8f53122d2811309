use Rattle.verdicts.proofs.Counts.{by_all}
use Rattle.verdicts.proofs.laws.verdicts_stand.Goals as goal

pub returns : goal.returns
returns c = by_all
