use Rattle.keychain.proofs.Chains.{collected_none, steps_ahead}
use Rattle.keychain.proofs.walk.Goals as goal
use Rattle.keychain.proofs.walk.Goals.{in-Ok, in-Err}

pub returns-clause-keys : goal.returns-clause-keys
returns-clause-keys c =
    let s = steps_ahead c.args.interval c.args.newest _ c.ahead_of-ahead.ensures in
    elim c.match-ahead.branch [
      | in-Ok w ↦ rw (s, w.in-Ok.is, w.keys-is) w.walk_down-outcome.ensures.keys
      | in-Err w ↦ rw (s, w.in-Err.is) (collected_none _ _ _ w.keys-is)
    ]
