use Rattle.std.proofs.Common.{◌≡◌, ◌*◌, replicate}
use Rattle.verdicts.specs.Fates.{no_fate}
use Rattle.verdicts.proofs.fates.Fates.blank.Given as goal

-- so many rows
abbrev pub invariant-loop-message : goal.invariant-loop-message
invariant-loop-message l = l.all.items ≡ replicate (l._message * l.receivers) no_fate
