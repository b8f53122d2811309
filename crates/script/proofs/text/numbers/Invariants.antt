use Rattle.std.proofs.Common.{◌≡◌, length, drop, vec_items}
use Rattle.script.specs.Text.{words, numbers}
use Rattle.script.proofs.Numbers.{ahead}
use Rattle.script.proofs.text.numbers.Given as goal

abbrev pub invariant-loop-word : goal.invariant-loop-word
invariant-loop-word l = ahead (vec_items l.all) (numbers (drop (length l.yielded) (words l.fields))) ≡ numbers (words l.fields)
