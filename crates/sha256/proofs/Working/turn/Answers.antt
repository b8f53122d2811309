use Rattle.std.proofs.Common.{refl}
use Rattle.sha256.proofs.Windows.{at_more}
use Rattle.sha256.proofs.Working.turn.Goals as goal

pub returns-clause-at : goal.returns-clause-at
returns-clause-at c block s h = at_more block s c.args.self _ c.requires h refl c.round.ensures c.slide.ensures
