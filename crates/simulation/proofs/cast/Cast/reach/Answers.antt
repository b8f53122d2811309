use Rattle.std.proofs.Common.{refl, ap, ◌∙◌}
use Rattle.hearings.specs.Saids.{sayings_of}
use Rattle.hearings.specs.Sents.{said_on}
use Rattle.simulation.proofs.Deeds.{brings_by}
use Rattle.simulation.proofs.cast.Cast.reach.Goals as goal

pub returns : goal.returns
returns c =
    let said = ap sayings_of c.as_slice-2.ensures.value ∙ c.in_ok-said.ensures ∙ ap said_on c.as_slice.ensures.value in
    record {
      hearings = c.in_ok-hearings.hearings;
      brought = refl;
      heard = brings_by _ _ c.args.to c.args.bytes.now _ _ _ said c.as_mut_slice.ensures.value c.in_ok-hearings.ensures.heard;
      stays = record { air = refl; events = refl };
    }
