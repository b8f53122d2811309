use Rattle.std.proofs.Common.{◌≡◌, eqb, take, sym, ◌∙◌, rules}
use Rattle.std.proofs.iter.runs.Made.{chains}
use Rattle.std.specs.List.{count_by}
use Rattle.buffer.specs.declared.message.Buffered.{Buffered}
use Rattle.buffer.proofs.Lists.{of_messages}
use Rattle.buffer.proofs.room.Buffer.of_interval.Goals as goal

pub returns : goal.returns
returns c =
    let b = c.args.self.now in
    let h : c.count.result ≡ count_by (λ (k : Buffered). eqb k.numbers.interval c.args.interval) (take b.len b.messages) = search (rules, chains) in
    h ∙ sym (of_messages c.args.interval (take b.len b.messages))
