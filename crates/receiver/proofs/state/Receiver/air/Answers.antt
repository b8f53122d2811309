use Rattle.buffer.specs.Buffers.{saids_of}
use Rattle.receiver.specs.Calls.{from_air}
use Rattle.receiver.proofs.Stood.{call_stands}
use Rattle.receiver.proofs.state.Receiver.air.Goals as goal

pub returns-clause-stands : goal.returns-clause-stands
returns-clause-stands c =
    let e = c.hear_air-answer.ensures in
    let last = c.hear_air-answer.new in
    λ p n w. call_stands p n (from_air c.args.bytes.now) c.args.self last.r (saids_of last.out) w e.parameters e.state e.delivered
