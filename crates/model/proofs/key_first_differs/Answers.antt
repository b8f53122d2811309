use Rattle.model.proofs.Wrong.{message_first}
use Rattle.model.proofs.key_first_differs.Goals as goal

pub returns : goal.returns
returns c = message_first
