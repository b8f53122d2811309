use Rattle.std.proofs.Common.{refl}
use Rattle.wire.proofs.Whole.{message_whole, under_tag, tag_long}
use Rattle.wire.proofs.message.read.Goals as goal

pub returns : goal.returns
returns c =
    let h = c.in_ok-said.ensures in
    let t = rw c.in_ok-tag.ensures.ok_part at c.split_first_chunk.ensures.cases in
    let k = c.in_ok-disclosed.ensures in
    (message_whole _ _ _ _ _ _ h.whole t.0 t.1 k.0, (record { says = h.fits; tag = tag_long _ _ _ t.0 t.1 t.2; behind = k.1 }, under_tag _ _ _ _ h.whole refl))
