use Rattle.scenario.proofs.First.{first_fault}
use Rattle.scenario.proofs.laws.first_fault_stands.Goals as goal

pub returns : goal.returns
returns c = first_fault
