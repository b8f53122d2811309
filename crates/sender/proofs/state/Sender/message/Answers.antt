use Rattle.std.proofs.Common.{length, ap, ◌∙◌}
use Rattle.model.specs.Receiver.{message_bytes}
use Rattle.keychain.specs.Chain.{tagged}
use Rattle.wire.specs.Bytes.{over}
use Rattle.wire.specs.Formats.{packet, message_encoded}
use Rattle.turns.specs.Turns.{disclosed}
use Rattle.sender.specs.Of.{state_of}
use Rattle.sender.proofs.Ticks.{lies_in_range, message_is, memory_is}
use Rattle.sender.proofs.state.Sender.message.Goals as goal

pub returns-clause-memory : goal.returns-clause-memory
returns-clause-memory c =
    let me = c.args.self.now in
    let s = state_of me in
    let text = c.args.text.now in
    let i = c.current.result in
    let j = c.next-interval.result.0 in
    let x = packet (record { interval = i; index = me.index; text = text }) c.tag_of-tag.result (record { interval = j; key = c.shown_key.result.bytes }) in
    let m =
    message_is s text c.tag_of-tag.result c.shown_key.result.bytes i j
    (lies_in_range s i c.current.ensures c.requires.allowed me.chain.parameters.few_intervals)
    (c.next-interval.ensures.told ∙ ap (disclosed me.turn) c.newest.ensures)
    (c.tag_of-tag.ensures ∙ ap (λ own. tagged own (message_bytes (record { interval = i; index = me.index; text = text }))) c.own_key.ensures)
    c.shown_key.ensures in
    memory_is (length text) _ (message_encoded x) c.args.out.now c.write.ensures.memory c.requires.short_text ∙ ap (λ x. over (message_encoded x) c.args.out.now) m
