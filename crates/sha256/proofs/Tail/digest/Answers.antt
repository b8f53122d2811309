use Rattle.std.proofs.Common.{ap, ◌∙◌, arith}
use Rattle.sha256.specs.Sha256.{state_bytes}
use Rattle.sha256.proofs.Steps.{absorb_front}
use Rattle.sha256.proofs.Tail.digest.Goals as goal

pub returns : goal.returns
returns c =
    c.state_bytes.ensures
    ∙ ap state_bytes (c.absorb.ensures ∙ rw c.block_count.ensures (absorb_front _ c.padded-buf.result _ c.args.s _ c.as_chunks.ensures.front (omega arith) (omega arith) c.padded-buf.ensures))
