use Rattle.wire.proofs.Reading.{message_back, key_back, message_event_lem, key_event_lem, tick_back, delivery_back}
use Rattle.wire.proofs.Setup.{settings_back}
use Rattle.wire.proofs.laws.written_is_read.Goals as goal

pub returns : goal.returns
returns c =
    record { message = message_back; key = key_back; heard_message = message_event_lem; heard_key = key_event_lem; tick = tick_back; delivery = delivery_back; settings = settings_back }
