use Rattle.std.proofs.Common.{◌<◌, length, ap, ◌∙◌, arith}
use Rattle.std.proofs.lemmas.Bool.{lt-ltb}
use Rattle.std.proofs.lemmas.List.{take_more_set}
use Rattle.buffer.specs.Buffers.{messages_in}
use Rattle.buffer.proofs.Lists.{messages_push}
use Rattle.buffer.proofs.room.Buffer.push.Goals as goal

pub returns-then-self-lt-PLACES : goal.returns-then-self-lt-PLACES
returns-then-self-lt-PLACES c =
    let s = c.args.self.now in
    let t = lt-ltb s.len 64 c.if-self-lt-PLACES.true in
    let h : s.len < length s.messages = omega (arith, s.sized) in
    record { count = rw t; messages = rw t (ap messages_in (take_more_set s.messages s.len c.args.k h) ∙ messages_push _ c.args.k) }
