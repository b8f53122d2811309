use Rattle.std.proofs.Common.{arith}
use Rattle.sha256.specs.Sha256.{next_word}
use Rattle.sha256.proofs.Windows.{slid_is}
use Rattle.sha256.proofs.slide.Goals as goal

pub returns : goal.returns
unfolding next_word
returns c = slid_is c.args.w _ (omega arith) (cc)
