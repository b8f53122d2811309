use Rattle.std.proofs.Common.{List, ap, ◌∙◌}
use Rattle.std.specs.List.{list_any}
use Rattle.model.specs.Receiver.{same_message}
use Rattle.buffer.specs.Buffers.{as_message}
use Rattle.buffer.specs.declared.message.Buffered.{Buffered}
use Rattle.buffer.proofs.Lists.{in_messages}
use Rattle.buffer.proofs.room.Buffer.has.Goals as goal

pub returns : goal.returns
returns c =
    let x = as_message c.args.k.now in
    c.is_among.ensures ∙ ap (λ (ks : List Buffered). list_any (λ (m : Buffered). same_message x (as_message m)) ks) c.messages.ensures ∙ in_messages x _
