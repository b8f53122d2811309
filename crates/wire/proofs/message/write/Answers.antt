use Rattle.std.proofs.Common.{◌≡◌, ℕ, ◌+◌, List, ◌++◌, length, sym, ap, ◌∙◌, append_assoc, arith, rules, length-append}
use Rattle.std.proofs.lemmas.Bool.{cond-true}
use Rattle.wire.specs.Bytes.{two, over}
use Rattle.wire.specs.Formats.{said_bytes}
use Rattle.wire.specs.Values.{said_of}
use Rattle.wire.proofs.Memory.{wrote, over_more}
use Rattle.wire.proofs.message.write.Goals as goal

pub returns-clause-memory : goal.returns-clause-memory
returns-clause-memory c =
    let d = wrote _ _ _ c.in_ok-count.ensures.answer in
    let old : List ℕ = c.args.out.now in
    let n : ℕ = c.in_ok-count.count in
    let s : List ℕ = said_bytes 1 (said_of c.args.said) in
    let g : List ℕ = c.args.tag.now in
    let i : List ℕ = two c.args.disclosed.interval in
    let k : List ℕ = c.args.disclosed.key.now in
    let lg : length g ≡ 16 = omega arith in
    let ii : c.copy_from_slice-2.new.self ≡ i = search rules in
    let x = over_more s old _ g n (n + 16) d.1 (omega arith) (c.in_ok-count.ensures.memory ∙ cond-true _ _ _ d.0) in
    let y = over_more (s ++ g) old _ i (n + 16) (n + 18) (omega (arith, length-append s g, d.1, lg)) (omega arith) x in
    let z = over_more ((s ++ g) ++ i) old _ k (n + 18) (n + 50) (omega (arith, length-append s g, length-append (s ++ g) i, d.1, lg)) (omega arith) y in
    let all : ((s ++ g) ++ i) ++ k ≡ s ++ (g ++ (i ++ k)) = append_assoc (s ++ g) i k ∙ append_assoc s g (i ++ k) in
    (rw (c.copy_from_slice.ensures.after, ii, c.copy_from_slice-3.ensures.after) z ∙ ap (λ (u : List ℕ). over u old) all) ∙ sym (cond-true _ _ _ d.0)
