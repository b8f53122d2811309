use Rattle.std.proofs.Common.{◌+◌, ◌≤◌, length}
use Rattle.script.specs.Reading.{Runs}
use Rattle.script.specs.Text.{lines_of}
use Rattle.script.proofs.reader.read.Given as goal

-- what is left of the script comes to what the whole comes to
abbrev pub invariant-loop-text : goal.invariant-loop-text
invariant-loop-text g l =
    let f = g.F.Follow in
    ((r : _) → Runs f.steps f.ends l.line l.state (lines_of l.rest) r → Runs f.steps f.ends 0 l.fn.start (lines_of l.fn.script) r) × (l.line + length l.rest ≤ length l.script)

abbrev pub decreases-loop-text : goal.decreases-loop-text
decreases-loop-text g l = length l.rest
