use Rattle.std.proofs.Common.{◌≡◌, drop}
use Rattle.script.specs.Text.{digits}
use Rattle.script.proofs.text.number.Given as goal

abbrev pub invariant-loop-b : goal.invariant-loop-b
invariant-loop-b l = digits l.n (drop l.b-index l.word) ≡ digits 0 l.word
