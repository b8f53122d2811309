use Rattle.std.proofs.Common.{◌+◌, ◌%◌, ◌^◌, get_or, rules}
use Rattle.sha256.specs.Sha256.{sums}
use Rattle.sha256.proofs.Arrays.{from_fn_same}
use Rattle.sha256.proofs.sum.Goals as goal

pub returns : goal.returns
unfolding sums
returns c = from_fn_same _ (λ i. (get_or c.args.s i 0 + get_or c.args.t i 0) % 2 ^ 32) _ (λ i y q h. search rules) c.from_fn.result 0 8 c.from_fn.ensures.items
