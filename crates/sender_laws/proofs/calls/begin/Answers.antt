use Rattle.std.proofs.Common.{◌≡◌, length, rules}
use Rattle.timing.specs.Time.{parameters_of}
use Rattle.sender_laws.proofs.Worlds.{stands_first}
use Rattle.sender_laws.proofs.Ends.{limits_in_range}
use Rattle.sender_laws.proofs.calls.begin.Goals as goal

pub returns-clause-world : goal.returns-clause-world
returns-clause-world c =
    let l : length c.args.drawn ≡ 32 = search rules in
    rw c.new.ensures.sender (stands_first (parameters_of c.args.parameters) c.args.drawn (limits_in_range c.args.parameters) l)
