use Rattle.sender_laws.proofs.Said.{twice, early}
use Rattle.sender_laws.proofs.Alone.{by_itself, worked_once}
use Rattle.sender_laws.proofs.runs_stand.Goals as goal

pub returns : goal.returns
returns c = record { twice = twice; early = early; alone = by_itself; worked = worked_once }
