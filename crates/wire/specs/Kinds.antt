-- The kinds of records, each with its first byte.
use Rattle.std.specs.Prelude.{ℕ, cond, Ok, Err, Result, ◌==◌}
use Rattle.timing.specs.declared.refusal.Refusal.{Refusal}
use Rattle.timing.specs.declared.refusal.Refusal.TheVariants.{Malformed}
use Rattle.wire.specs.declared.kind.Kind.{Kind}
use Rattle.wire.specs.declared.kind.Kind.TheVariants as kind

abbrev pub kind_byte : Kind → ℕ
kind_byte kind.Message = 1
kind_byte kind.Key = 2
kind_byte kind.Tick = 3
kind_byte kind.Delivery = 16

abbrev pub kind_of : ℕ → Result Kind Refusal
kind_of n =
    cond (n == 1) (Ok kind.Message) (cond (n == 2) (Ok kind.Key) (cond (n == 3) (Ok kind.Tick) (cond (n == 16) (Ok kind.Delivery) (Err Malformed))))
