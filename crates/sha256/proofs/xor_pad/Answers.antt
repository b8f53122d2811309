use Rattle.std.proofs.Common.{bit_xor, rules}
use Rattle.std.proofs.lemmas.List.{take_all, drop_all}
use Rattle.std.proofs.lemmas.List.Edits.{map_over_more}
use Rattle.sha256.specs.Hmac.{xor_pad}
use Rattle.sha256.proofs.xor_pad.Goals as goal

pub loop-x-preserved : goal.loop-x-preserved
loop-x-preserved c = search (rules, map_over_more (λ x. bit_xor x c.args.pad))

pub returns : goal.returns
unfolding xor_pad
returns c = search (rules, take_all, drop_all)
