use Rattle.sender_laws.proofs.Worlds.{lawful, stands_first, undisturbed, genuine}
use Rattle.sender_laws.proofs.worlds_stand.Goals as goal

pub returns : goal.returns
returns c = record { lawful = lawful; first = stands_first; undisturbed = undisturbed; genuine = genuine }
