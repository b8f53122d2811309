use Rattle.std.proofs.Common.{arith}
use Rattle.verdicts.proofs.Counts.{row_end}
use Rattle.verdicts.proofs.fates.of_message.Goals as goal

pub overflow_sub-result : goal.overflow_sub-result
overflow_sub-result c = omega (arith, c.in-Some.ensures.1, row_end c.args.receivers c.args.message (omega arith))
