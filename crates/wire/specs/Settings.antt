-- What settings of the code stand for.
use Rattle.timing.specs.Time.{parameters_of}
use Rattle.wire.specs.declared.settings.Settings.{Settings}
use Rattle.wire.specs.Setup.{Setup}

abbrev pub settings_of : Settings → Setup
settings_of s = record { start = s.start; numbers = parameters_of s.parameters; commitment = s.commitment }
