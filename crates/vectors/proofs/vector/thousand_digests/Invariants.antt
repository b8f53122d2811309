use Rattle.std.proofs.Common.{◌≡◌, ◌-◌}
use Rattle.vectors.specs.Chain.{chained}
use Rattle.vectors.proofs.vector.thousand_digests.Given as goal

abbrev pub invariant-loop : goal.invariant-loop
invariant-loop l = chained (1000 - l.counter) l.a l.b l.c ≡ chained 1000 l.fn.seed l.fn.seed l.fn.seed
