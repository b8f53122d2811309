use Rattle.std.proofs.Common.{◌≡◌, ℕ, ◌-◌, ◌<◌, ◌≤◌, length, get_or}
use Rattle.buffer.specs.declared.message.Buffered.{Buffered}
use Rattle.receiver.proofs.rules.wanted.Given as goal

abbrev pub invariant-loop-i : goal.invariant-loop-i
invariant-loop-i l =
    (length l.before ≡ 64)
    × ((p : ℕ) (d : Buffered) → p < l.i → (get_or l.buffer.messages p d).numbers.interval ≤ l.j → get_or l.before p 0 ≡ l.j - (get_or l.buffer.messages p d).numbers.interval)
