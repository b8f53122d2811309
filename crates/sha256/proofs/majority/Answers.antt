use Rattle.std.proofs.Common.{arith}
use Rattle.sha256.proofs.Bitwise.{quick_majority}
use Rattle.sha256.proofs.majority.Goals as goal

pub returns : goal.returns
returns c = quick_majority 32 c.args.x c.args.y c.args.z (omega arith) (omega arith) (omega arith)
