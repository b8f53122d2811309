use Rattle.frames.proofs.Reading.{written_read, fronts_refused}
use Rattle.frames.proofs.laws.frames_stand.Goals as goal

pub returns : goal.returns
returns c = record { written = written_read; fronts = fronts_refused }
