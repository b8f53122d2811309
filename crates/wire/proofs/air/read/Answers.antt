use Rattle.std.proofs.Common.{ap, ◌∙◌}
use Rattle.wire.proofs.Reading.{message_event_lem}
use Rattle.wire.specs.Formats.{air_event}
use Rattle.wire.proofs.air.read.Goals as goal

pub returns-in-Ok : goal.returns-in-Ok
returns-in-Ok c =
    let h = c.in-Ok.ensures in (ap air_event h.0 ∙ message_event_lem _ h.1.0, record { under = h.1.1; fits = h.1.0 })
