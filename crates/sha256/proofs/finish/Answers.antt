use Rattle.std.proofs.Common.{◌+◌, length, ap, ◌∙◌}
use Rattle.sha256.specs.Sha256.{state_bytes}
use Rattle.sha256.proofs.Steps.{absorb-all}
use Rattle.sha256.proofs.finish.Goals as goal

pub returns : goal.returns
returns c =
    c.digest.ensures
    ∙ ap state_bytes (absorb-all (c.args.before + length c.args.text.now) c.args.text.now _ c.args.s _ _ c.as_chunks.ensures.front c.as_chunks.ensures.back c.absorb.ensures)
