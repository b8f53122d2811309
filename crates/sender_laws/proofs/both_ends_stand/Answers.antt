use Rattle.sender_laws.proofs.Back.{brought_back}
use Rattle.sender_laws.proofs.Ends.{both_ends}
use Rattle.sender_laws.proofs.both_ends_stand.Goals as goal

pub returns : goal.returns
returns c = record { heard = both_ends; back = brought_back }
