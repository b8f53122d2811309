use Rattle.std.proofs.Common.{◌≡◌, ℕ, ◌+◌, ◌-◌, ◌≤◌, List}
use Rattle.sha256.specs.Hmac.{hmac}
use Rattle.model.specs.Receiver.{right_up_to, walked}
use Rattle.buffer.specs.Buffers.{messages_of, saids_of, KeysOf, up_to}
use Rattle.buffer.proofs.room.Buffer.deliver.Given as goal

abbrev pub invariant-loop-i : goal.invariant-loop-i
invariant-loop-i l =
    (l.out.len ≤ up_to l.i (messages_of l.self))
    × (l.tags + up_to l.from (messages_of l.self) ≡ up_to l.i (messages_of l.self))
    × ((k : List ℕ) → KeysOf l.from l.upto k l.self l.keys → saids_of l.out ≡ right_up_to hmac (walked hmac (l.upto - l.i) k) (l.i - l.from) l.i (messages_of l.self))
