use Rattle.std.proofs.Common.{◌≡◌, ◌*◌, ◌%◌, ◌^◌}
use Rattle.sha256.specs.Sha256.{long_bytes}
use Rattle.sha256.proofs.Buffers.{padded}
use Rattle.sha256.proofs.Tail.padded.Goals as goal

pub returns : goal.returns
returns c =
    let total = c.args.self.now.total in
    let size : c.copy_from_slice-2.new.self ≡ long_bytes (8 * total % 2 ^ 64) = cc in
    padded c.args.self.now.rest.now _ _ total _ c.copy_from_slice.ensures.after size c.block_count-end.ensures c.args.self.now.cut
