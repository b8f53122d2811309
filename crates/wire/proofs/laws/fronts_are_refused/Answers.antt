use Rattle.wire.proofs.Again.{air_cut, tick_cut, delivery_cut, settings_cut}
use Rattle.wire.proofs.laws.fronts_are_refused.Goals as goal

pub returns : goal.returns
returns c = record { air = air_cut; tick = tick_cut; delivery = delivery_cut; settings = settings_cut }
