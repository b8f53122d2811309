use Rattle.segments.proofs.Work.{once}
use Rattle.segments.proofs.walking.segments_stand.Goals as goal

pub returns-clause-once : goal.returns-clause-once
returns-clause-once c = once
