use Rattle.wire.proofs.Again.{message_written, key_written, air_written, tick_written, delivery_written, settings_written}
use Rattle.wire.proofs.laws.read_is_written.Goals as goal

pub returns : goal.returns
returns c = record { message = message_written; key = key_written; air = air_written; tick = tick_written; delivery = delivery_written; settings = settings_written }
