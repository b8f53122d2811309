use Rattle.std.proofs.Common.{arith}
use Rattle.buffer.specs.Buffers.{messages_of}
use Rattle.buffer.proofs.Lists.{count_is}
use Rattle.buffer.proofs.Order.{upto_few}
use Rattle.receiver.proofs.rules.take_key.Goals as goal

pub returns-clause-tags : goal.returns-clause-tags
returns-clause-tags c = let b = c.args.r.now.buffer in λ h. omega (arith, c.deliver-tags.ensures.tags h, upto_few c.args.j (messages_of b), count_is b, b.few)
