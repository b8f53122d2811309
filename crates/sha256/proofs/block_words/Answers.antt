use Rattle.std.proofs.Common.{[], get_or, rules, ◌∙◌}
use Rattle.std.specs.Int.{w32, from_be_bytes}
use Rattle.sha256.proofs.Arrays.{from_fn_same}
use Rattle.sha256.proofs.Steps.{words_are}
use Rattle.sha256.proofs.block_words.Goals as goal

pub returns : goal.returns
returns c =
    let w = from_fn_same _ (λ i. from_be_bytes w32 (get_or c.as_chunks.result.0.now i [])) _ (λ i y q h. (search (rules, h), search (rules, h))) c.from_fn.result 0 16 c.from_fn.ensures.items in
    w ∙ words_are c.args.block.now _ c.as_chunks.ensures.front c.told-block
