use Rattle.std.proofs.Common.{is_ok, refl, ap}
use Rattle.std.proofs.ResultArms.{chosen}
use Rattle.simulation.proofs.Deeds.{performed_by}
use Rattle.simulation.proofs.cast.Cast.perform.Goals as goal

pub returns-in_ok-push : goal.returns-in_ok-push
returns-in_ok-push c = performed_by c.args.line c.args.command _ _ c.args.self.now c.deed.new.self _ c.in-Some.is c.in_ok-deed.ensures (chosen _ _ _ _ c.push.ensures.items (ap is_ok c.in_ok-push.was)) refl
