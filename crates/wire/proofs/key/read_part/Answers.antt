use Rattle.std.proofs.Common.{◌≡◌, length, arith, rules, ◌∙◌}
use Rattle.wire.proofs.Whole.{key_part_whole}
use Rattle.wire.proofs.key.read_part.Goals as goal

pub returns : goal.returns
returns c =
    let b = c.args.b.now in
    let s = rw c.in_ok-interval.ensures.ok_part at c.split_first_chunk.ensures.cases in
    let k : (c.in_ok-key.key.now ≡ c.in_ok-interval.key.now) × (length c.in_ok-key.key.now ≡ 32) = search rules in
    (key_part_whole b _ _ _ (λ i. omega (arith, c.type_inv.b i)) (omega (arith, s.2)) s.0 c.from_be_bytes-interval.ensures (k.0 ∙ s.1), record { interval = c.from_be_bytes-interval.type_inv; key = k.1 })
