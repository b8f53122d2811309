use Rattle.std.proofs.Common.{sym, arith}
use Rattle.keychain.proofs.Chains.{down_none, collected_none}
use Rattle.keychain.proofs.walk_down.Goals as goal

pub walk-init : goal.walk-init
walk-init c = rw c.into_iter-before-iterator.ensures.into_iter_gives (record { within = omega arith; here = sym (down_none c.args.key.bytes); noted = collected_none _ _ _ c.requires })
