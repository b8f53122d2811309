use Rattle.std.proofs.Common.{◌≡◌, take, vec_items}
use Rattle.hearings.specs.Saids.{sayings_of}
use Rattle.hearings.specs.Sents.{said_on}
use Rattle.hearings.proofs.sent.sayings.Given as goal

abbrev pub invariant-loop-record : goal.invariant-loop-record
invariant-loop-record l = sayings_of (vec_items l.all) ≡ said_on (take l.record-index l.air)
