use Rattle.std.proofs.Common.{[]}
use Rattle.receiver.specs.Calls.{own_clock}
use Rattle.receiver.specs.State.{params_of, state_of}
use Rattle.receiver.proofs.Stood.{call_stands, clock_quiet}
use Rattle.receiver.proofs.state.Receiver.clock.Goals as goal

pub returns-clause-stands : goal.returns-clause-stands
returns-clause-stands c =
    let e = c.hear_clock-outcome.ensures in
    let r = c.args.self in
    let b = c.args.bytes.now in
    λ p n w. call_stands p n (own_clock b) r c.hear_clock-outcome.new.r [] w e.parameters e.state (clock_quiet (params_of r) b (state_of r))
