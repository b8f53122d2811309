use Rattle.std.proofs.Common.{◌∙◌}
use Rattle.hearings.specs.Saids.{saying_of}
use Rattle.hearings.proofs.Among.{among_by}
use Rattle.hearings.proofs.said.was_said.Goals as goal

pub returns : goal.returns
returns c = c.contains.ensures.value ∙ among_by c.args.said.now (saying_of c.args.delivered.now)
