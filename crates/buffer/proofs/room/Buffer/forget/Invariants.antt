use Rattle.std.proofs.Common.{◌≡◌, ltb}
use Rattle.std.proofs.lemmas.List.Filters.{FiltersInPlace}
use Rattle.buffer.specs.declared.message.Buffered.{Buffered}
use Rattle.buffer.proofs.room.Buffer.forget.Given as goal

abbrev pub invariant-loop-i : goal.invariant-loop-i
invariant-loop-i l = (l.self.len ≡ l.initial.self.len) × FiltersInPlace (λ (w : Buffered). ltb l.upto w.numbers.interval) l.initial.self.messages l.self.messages l.k l.i
