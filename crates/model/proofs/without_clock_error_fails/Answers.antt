use Rattle.model.proofs.Wrong.{toy_fooled, needs_error}
use Rattle.model.proofs.without_clock_error_fails.Goals as goal

pub returns : goal.returns
returns c = record { fooled = toy_fooled; breaks = needs_error }
