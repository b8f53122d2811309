use Rattle.std.proofs.Common.{◌∙◌}
use Rattle.sha256.specs.Sha256.{initial_hash}
use Rattle.sha256.proofs.Steps.{digest-block}
use Rattle.sha256.proofs.after_block.Goals as goal

pub returns : goal.returns
unfolding initial_hash
returns c =
    c.finish.ensures ∙ digest-block c.args.block.now c.args.text.now c.compression.result c.told-block c.compression.ensures
